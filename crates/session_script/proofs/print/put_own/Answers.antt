use Rattle.session_script.proofs.print.put_own.Goals as goal

pub returns-in-Slice : goal.returns-in-Slice
returns-in-Slice g c = rw c.in-Slice.is c.put_all-in-Slice.ensures

pub returns-in-Segment : goal.returns-in-Segment
returns-in-Segment g c = rw c.in-Segment.is c.put_all-in-Segment.ensures

pub returns-in-Pass : goal.returns-in-Pass
returns-in-Pass g c = rw c.in-Pass.is c.put_all-in-Pass.ensures

pub returns-in-Drop : goal.returns-in-Drop
returns-in-Drop g c = rw c.in-Drop.is c.put_all-in-Drop.ensures

pub returns-in-Stat : goal.returns-in-Stat
returns-in-Stat g c = rw c.in-Stat.is c.put_all-in-Stat.ensures

pub returns-in-Url : goal.returns-in-Url
returns-in-Url g c = rw c.in-Url.is c.put_all-in-Url.ensures

pub returns-in-Read : goal.returns-in-Read
returns-in-Read g c = rw c.in-Read.is c.put_all-in-Read.ensures

pub returns-in-Build : goal.returns-in-Build
returns-in-Build g c = rw c.in-Build.is c.put_build.ensures
