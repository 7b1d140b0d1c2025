-- A test of equality on answers, with what it tells.
use Rattle.std.proofs.Common.{◌≡◌, Bool, true, false, ◌&&◌, refl}
use Rattle.std.proofs.lemmas.Bool.{and_parts}
use Rattle.answer_text.specs.declared.answer.Answer.{Answer}
use Rattle.answer_text.specs.declared.answer.Answer.TheVariants as answers
use Rattle.blob_model.proofs.Lists.{both, false_true}
use Rattle.blob_model.proofs.tested.Words.{same_number, same_number-sound, same_number-whole, same_bytes, same_bytes-sound, same_bytes-whole, same_flag, same_flag-sound, same_flag-whole, same_reader, same_reader-sound, same_reader-whole, same_piece, same_piece-sound, same_piece-whole, same_page, same_page-sound, same_page-whole, same_job, same_job-sound, same_job-whole, same_list, same_list-sound, same_list-whole, same_status, same_status-sound, same_status-whole, same_plan, same_plan-sound, same_plan-whole, same_refusal, same_refusal-sound, same_refusal-whole}

abbrev pub same_answer : Answer → Answer → Bool
same_answer answers.Good answers.Good = true
same_answer (answers.Refused a0) (answers.Refused b0) = same_refusal a0 b0
same_answer (answers.Planned a0) (answers.Planned b0) = same_plan a0 b0
same_answer (answers.Broken a0 a1) (answers.Broken b0 b1) = same_number a0 b0 && same_status a1 b1
same_answer (answers.Taken a0) (answers.Taken b0) = same_number a0 b0
same_answer (answers.Stored a0 a1) (answers.Stored b0 b1) = same_page a0 b0 && same_piece a1 b1
same_answer (answers.StoreFailed a0) (answers.StoreFailed b0) = same_page a0 b0
same_answer (answers.Told a0 a1 a2 a3) (answers.Told b0 b1 b2 b3) = same_number a0 b0 && same_number a1 b1 && same_bytes a2 b2 && same_status a3 b3
same_answer answers.Revoked answers.Revoked = true
same_answer answers.Nothing answers.Nothing = true
same_answer (answers.Opened a0 a1 a2) (answers.Opened b0 b1 b2) = same_reader a0 b0 && same_number a1 b1 && same_bytes a2 b2
same_answer (answers.Given a0 a1) (answers.Given b0 b1) = same_reader a0 b0 && same_bytes a1 b1
same_answer (answers.Wait a0) (answers.Wait b0) = same_reader a0 b0
same_answer (answers.Ended a0 a1) (answers.Ended b0 b1) = same_reader a0 b0 && same_status a1 b1
same_answer (answers.FileChanged a0 a1) (answers.FileChanged b0 b1) = same_reader a0 b0 && same_bytes a1 b1
same_answer (answers.PageFault a0 a1) (answers.PageFault b0 b1) = same_reader a0 b0 && same_page a1 b1
same_answer (answers.HandleFailed a0 a1) (answers.HandleFailed b0 b1) = same_reader a0 b0 && same_number a1 b1
same_answer (answers.Paged a0 a1 a2) (answers.Paged b0 b1 b2) = same_job a0 b0 && same_page a1 b1 && same_list a2 b2
same_answer (answers.Empty a0) (answers.Empty b0) = same_job a0 b0
same_answer (answers.PageFailed a0 a1) (answers.PageFailed b0 b1) = same_job a0 b0 && same_page a1 b1
same_answer (answers.Moved a0 a1 a2) (answers.Moved b0 b1 b2) = same_job a0 b0 && same_page a1 b1 && same_list a2 b2
same_answer (answers.MoveFailed a0 a1) (answers.MoveFailed b0 b1) = same_job a0 b0 && same_page a1 b1
same_answer (answers.MoveUnread a0 a1) (answers.MoveUnread b0 b1) = same_job a0 b0 && same_page a1 b1
same_answer (answers.LostJob a0) (answers.LostJob b0) = same_job a0 b0
same_answer (answers.Held a0 a1 a2 a3 a4) (answers.Held b0 b1 b2 b3 b4) = same_number a0 b0 && same_number a1 b1 && same_number a2 b2 && same_number a3 b3
    && same_flag a4 b4
same_answer (answers.Dropped a0) (answers.Dropped b0) = same_number a0 b0
same_answer (answers.Done a0) (answers.Done b0) = same_number a0 b0
same_answer (answers.Removed a0) (answers.Removed b0) = same_page a0 b0
same_answer (answers.Left a0) (answers.Left b0) = same_page a0 b0
same_answer (answers.Granted a0) (answers.Granted b0) = same_number a0 b0
same_answer (answers.Job a0 a1) (answers.Job b0 b1) = same_job a0 b0 && same_list a1 b1
same_answer (answers.Compacting a0 a1 a2) (answers.Compacting b0 b1 b2) = same_job a0 b0 && same_page a1 b1 && same_list a2 b2
same_answer a b = false

pub same_answer-sound : (a b : Answer) → same_answer a b ≡ true → a ≡ b
same_answer-sound answers.Good answers.Good e = refl
same_answer-sound (answers.Refused a0) (answers.Refused b0) e = let e0 : a0 ≡ b0 = same_refusal-sound a0 b0 e in λ i. answers.Refused (e0 i)
same_answer-sound (answers.Planned a0) (answers.Planned b0) e = let e0 : a0 ≡ b0 = same_plan-sound a0 b0 e in λ i. answers.Planned (e0 i)
same_answer-sound (answers.Broken a0 a1) (answers.Broken b0 b1) e = let p1 = and_parts (same_number a0 b0) (same_status a1 b1) e in
    let e0 : a0 ≡ b0 = same_number-sound a0 b0 p1.0 in let e1 : a1 ≡ b1 = same_status-sound a1 b1 p1.1 in λ i. answers.Broken (e0 i) (e1 i)
same_answer-sound (answers.Taken a0) (answers.Taken b0) e = let e0 : a0 ≡ b0 = same_number-sound a0 b0 e in λ i. answers.Taken (e0 i)
same_answer-sound (answers.Stored a0 a1) (answers.Stored b0 b1) e = let p1 = and_parts (same_page a0 b0) (same_piece a1 b1) e in
    let e0 : a0 ≡ b0 = same_page-sound a0 b0 p1.0 in let e1 : a1 ≡ b1 = same_piece-sound a1 b1 p1.1 in λ i. answers.Stored (e0 i) (e1 i)
same_answer-sound (answers.StoreFailed a0) (answers.StoreFailed b0) e = let e0 : a0 ≡ b0 = same_page-sound a0 b0 e in λ i. answers.StoreFailed (e0 i)
same_answer-sound (answers.Told a0 a1 a2 a3) (answers.Told b0 b1 b2 b3) e =
    let p3 = and_parts (same_number a0 b0 && same_number a1 b1 && same_bytes a2 b2) (same_status a3 b3) e in
    let p2 = and_parts (same_number a0 b0 && same_number a1 b1) (same_bytes a2 b2) p3.0 in let p1 = and_parts (same_number a0 b0) (same_number a1 b1) p2.0 in
    let e0 : a0 ≡ b0 = same_number-sound a0 b0 p1.0 in let e1 : a1 ≡ b1 = same_number-sound a1 b1 p1.1 in let e2 : a2 ≡ b2 = same_bytes-sound a2 b2 p2.1 in
    let e3 : a3 ≡ b3 = same_status-sound a3 b3 p3.1 in λ i. answers.Told (e0 i) (e1 i) (e2 i) (e3 i)
same_answer-sound answers.Revoked answers.Revoked e = refl
same_answer-sound answers.Nothing answers.Nothing e = refl
same_answer-sound (answers.Opened a0 a1 a2) (answers.Opened b0 b1 b2) e = let p2 = and_parts (same_reader a0 b0 && same_number a1 b1) (same_bytes a2 b2) e in
    let p1 = and_parts (same_reader a0 b0) (same_number a1 b1) p2.0 in let e0 : a0 ≡ b0 = same_reader-sound a0 b0 p1.0 in
    let e1 : a1 ≡ b1 = same_number-sound a1 b1 p1.1 in let e2 : a2 ≡ b2 = same_bytes-sound a2 b2 p2.1 in λ i. answers.Opened (e0 i) (e1 i) (e2 i)
same_answer-sound (answers.Given a0 a1) (answers.Given b0 b1) e = let p1 = and_parts (same_reader a0 b0) (same_bytes a1 b1) e in
    let e0 : a0 ≡ b0 = same_reader-sound a0 b0 p1.0 in let e1 : a1 ≡ b1 = same_bytes-sound a1 b1 p1.1 in λ i. answers.Given (e0 i) (e1 i)
same_answer-sound (answers.Wait a0) (answers.Wait b0) e = let e0 : a0 ≡ b0 = same_reader-sound a0 b0 e in λ i. answers.Wait (e0 i)
same_answer-sound (answers.Ended a0 a1) (answers.Ended b0 b1) e = let p1 = and_parts (same_reader a0 b0) (same_status a1 b1) e in
    let e0 : a0 ≡ b0 = same_reader-sound a0 b0 p1.0 in let e1 : a1 ≡ b1 = same_status-sound a1 b1 p1.1 in λ i. answers.Ended (e0 i) (e1 i)
same_answer-sound (answers.FileChanged a0 a1) (answers.FileChanged b0 b1) e = let p1 = and_parts (same_reader a0 b0) (same_bytes a1 b1) e in
    let e0 : a0 ≡ b0 = same_reader-sound a0 b0 p1.0 in let e1 : a1 ≡ b1 = same_bytes-sound a1 b1 p1.1 in λ i. answers.FileChanged (e0 i) (e1 i)
same_answer-sound (answers.PageFault a0 a1) (answers.PageFault b0 b1) e = let p1 = and_parts (same_reader a0 b0) (same_page a1 b1) e in
    let e0 : a0 ≡ b0 = same_reader-sound a0 b0 p1.0 in let e1 : a1 ≡ b1 = same_page-sound a1 b1 p1.1 in λ i. answers.PageFault (e0 i) (e1 i)
same_answer-sound (answers.HandleFailed a0 a1) (answers.HandleFailed b0 b1) e = let p1 = and_parts (same_reader a0 b0) (same_number a1 b1) e in
    let e0 : a0 ≡ b0 = same_reader-sound a0 b0 p1.0 in let e1 : a1 ≡ b1 = same_number-sound a1 b1 p1.1 in λ i. answers.HandleFailed (e0 i) (e1 i)
same_answer-sound (answers.Paged a0 a1 a2) (answers.Paged b0 b1 b2) e = let p2 = and_parts (same_job a0 b0 && same_page a1 b1) (same_list a2 b2) e in
    let p1 = and_parts (same_job a0 b0) (same_page a1 b1) p2.0 in let e0 : a0 ≡ b0 = same_job-sound a0 b0 p1.0 in
    let e1 : a1 ≡ b1 = same_page-sound a1 b1 p1.1 in let e2 : a2 ≡ b2 = same_list-sound a2 b2 p2.1 in λ i. answers.Paged (e0 i) (e1 i) (e2 i)
same_answer-sound (answers.Empty a0) (answers.Empty b0) e = let e0 : a0 ≡ b0 = same_job-sound a0 b0 e in λ i. answers.Empty (e0 i)
same_answer-sound (answers.PageFailed a0 a1) (answers.PageFailed b0 b1) e = let p1 = and_parts (same_job a0 b0) (same_page a1 b1) e in
    let e0 : a0 ≡ b0 = same_job-sound a0 b0 p1.0 in let e1 : a1 ≡ b1 = same_page-sound a1 b1 p1.1 in λ i. answers.PageFailed (e0 i) (e1 i)
same_answer-sound (answers.Moved a0 a1 a2) (answers.Moved b0 b1 b2) e = let p2 = and_parts (same_job a0 b0 && same_page a1 b1) (same_list a2 b2) e in
    let p1 = and_parts (same_job a0 b0) (same_page a1 b1) p2.0 in let e0 : a0 ≡ b0 = same_job-sound a0 b0 p1.0 in
    let e1 : a1 ≡ b1 = same_page-sound a1 b1 p1.1 in let e2 : a2 ≡ b2 = same_list-sound a2 b2 p2.1 in λ i. answers.Moved (e0 i) (e1 i) (e2 i)
same_answer-sound (answers.MoveFailed a0 a1) (answers.MoveFailed b0 b1) e = let p1 = and_parts (same_job a0 b0) (same_page a1 b1) e in
    let e0 : a0 ≡ b0 = same_job-sound a0 b0 p1.0 in let e1 : a1 ≡ b1 = same_page-sound a1 b1 p1.1 in λ i. answers.MoveFailed (e0 i) (e1 i)
same_answer-sound (answers.MoveUnread a0 a1) (answers.MoveUnread b0 b1) e = let p1 = and_parts (same_job a0 b0) (same_page a1 b1) e in
    let e0 : a0 ≡ b0 = same_job-sound a0 b0 p1.0 in let e1 : a1 ≡ b1 = same_page-sound a1 b1 p1.1 in λ i. answers.MoveUnread (e0 i) (e1 i)
same_answer-sound (answers.LostJob a0) (answers.LostJob b0) e = let e0 : a0 ≡ b0 = same_job-sound a0 b0 e in λ i. answers.LostJob (e0 i)
same_answer-sound (answers.Held a0 a1 a2 a3 a4) (answers.Held b0 b1 b2 b3 b4) e =
    let p4 = and_parts (same_number a0 b0 && same_number a1 b1 && same_number a2 b2 && same_number a3 b3) (same_flag a4 b4) e in
    let p3 = and_parts (same_number a0 b0 && same_number a1 b1 && same_number a2 b2) (same_number a3 b3) p4.0 in
    let p2 = and_parts (same_number a0 b0 && same_number a1 b1) (same_number a2 b2) p3.0 in let p1 = and_parts (same_number a0 b0) (same_number a1 b1) p2.0 in
    let e0 : a0 ≡ b0 = same_number-sound a0 b0 p1.0 in let e1 : a1 ≡ b1 = same_number-sound a1 b1 p1.1 in let e2 : a2 ≡ b2 = same_number-sound a2 b2 p2.1 in
    let e3 : a3 ≡ b3 = same_number-sound a3 b3 p3.1 in let e4 : a4 ≡ b4 = same_flag-sound a4 b4 p4.1 in λ i. answers.Held (e0 i) (e1 i) (e2 i) (e3 i) (e4 i)
same_answer-sound (answers.Dropped a0) (answers.Dropped b0) e = let e0 : a0 ≡ b0 = same_number-sound a0 b0 e in λ i. answers.Dropped (e0 i)
same_answer-sound (answers.Done a0) (answers.Done b0) e = let e0 : a0 ≡ b0 = same_number-sound a0 b0 e in λ i. answers.Done (e0 i)
same_answer-sound (answers.Removed a0) (answers.Removed b0) e = let e0 : a0 ≡ b0 = same_page-sound a0 b0 e in λ i. answers.Removed (e0 i)
same_answer-sound (answers.Left a0) (answers.Left b0) e = let e0 : a0 ≡ b0 = same_page-sound a0 b0 e in λ i. answers.Left (e0 i)
same_answer-sound (answers.Granted a0) (answers.Granted b0) e = let e0 : a0 ≡ b0 = same_number-sound a0 b0 e in λ i. answers.Granted (e0 i)
same_answer-sound (answers.Job a0 a1) (answers.Job b0 b1) e = let p1 = and_parts (same_job a0 b0) (same_list a1 b1) e in
    let e0 : a0 ≡ b0 = same_job-sound a0 b0 p1.0 in let e1 : a1 ≡ b1 = same_list-sound a1 b1 p1.1 in λ i. answers.Job (e0 i) (e1 i)
same_answer-sound (answers.Compacting a0 a1 a2) (answers.Compacting b0 b1 b2) e = let p2 = and_parts (same_job a0 b0 && same_page a1 b1) (same_list a2 b2) e in
    let p1 = and_parts (same_job a0 b0) (same_page a1 b1) p2.0 in let e0 : a0 ≡ b0 = same_job-sound a0 b0 p1.0 in
    let e1 : a1 ≡ b1 = same_page-sound a1 b1 p1.1 in let e2 : a2 ≡ b2 = same_list-sound a2 b2 p2.1 in λ i. answers.Compacting (e0 i) (e1 i) (e2 i)
same_answer-sound a b e = absurd (false_true e)

pub same_answer-whole : (a : Answer) → same_answer a a ≡ true
same_answer-whole answers.Good = refl
same_answer-whole (answers.Refused a0) = same_refusal-whole a0
same_answer-whole (answers.Planned a0) = same_plan-whole a0
same_answer-whole (answers.Broken a0 a1) = both (same_number a0 a0) (same_status a1 a1) (same_number-whole a0) (same_status-whole a1)
same_answer-whole (answers.Taken a0) = same_number-whole a0
same_answer-whole (answers.Stored a0 a1) = both (same_page a0 a0) (same_piece a1 a1) (same_page-whole a0) (same_piece-whole a1)
same_answer-whole (answers.StoreFailed a0) = same_page-whole a0
same_answer-whole (answers.Told a0 a1 a2 a3) = both (same_number a0 a0 && same_number a1 a1 && same_bytes a2 a2) (same_status a3 a3)
    (both (same_number a0 a0 && same_number a1 a1) (same_bytes a2 a2)
    (both (same_number a0 a0) (same_number a1 a1) (same_number-whole a0) (same_number-whole a1)) (same_bytes-whole a2)) (same_status-whole a3)
same_answer-whole answers.Revoked = refl
same_answer-whole answers.Nothing = refl
same_answer-whole (answers.Opened a0 a1 a2) = both (same_reader a0 a0 && same_number a1 a1) (same_bytes a2 a2)
    (both (same_reader a0 a0) (same_number a1 a1) (same_reader-whole a0) (same_number-whole a1)) (same_bytes-whole a2)
same_answer-whole (answers.Given a0 a1) = both (same_reader a0 a0) (same_bytes a1 a1) (same_reader-whole a0) (same_bytes-whole a1)
same_answer-whole (answers.Wait a0) = same_reader-whole a0
same_answer-whole (answers.Ended a0 a1) = both (same_reader a0 a0) (same_status a1 a1) (same_reader-whole a0) (same_status-whole a1)
same_answer-whole (answers.FileChanged a0 a1) = both (same_reader a0 a0) (same_bytes a1 a1) (same_reader-whole a0) (same_bytes-whole a1)
same_answer-whole (answers.PageFault a0 a1) = both (same_reader a0 a0) (same_page a1 a1) (same_reader-whole a0) (same_page-whole a1)
same_answer-whole (answers.HandleFailed a0 a1) = both (same_reader a0 a0) (same_number a1 a1) (same_reader-whole a0) (same_number-whole a1)
same_answer-whole (answers.Paged a0 a1 a2) = both (same_job a0 a0 && same_page a1 a1) (same_list a2 a2)
    (both (same_job a0 a0) (same_page a1 a1) (same_job-whole a0) (same_page-whole a1)) (same_list-whole a2)
same_answer-whole (answers.Empty a0) = same_job-whole a0
same_answer-whole (answers.PageFailed a0 a1) = both (same_job a0 a0) (same_page a1 a1) (same_job-whole a0) (same_page-whole a1)
same_answer-whole (answers.Moved a0 a1 a2) = both (same_job a0 a0 && same_page a1 a1) (same_list a2 a2)
    (both (same_job a0 a0) (same_page a1 a1) (same_job-whole a0) (same_page-whole a1)) (same_list-whole a2)
same_answer-whole (answers.MoveFailed a0 a1) = both (same_job a0 a0) (same_page a1 a1) (same_job-whole a0) (same_page-whole a1)
same_answer-whole (answers.MoveUnread a0 a1) = both (same_job a0 a0) (same_page a1 a1) (same_job-whole a0) (same_page-whole a1)
same_answer-whole (answers.LostJob a0) = same_job-whole a0
same_answer-whole (answers.Held a0 a1 a2 a3 a4) = both (same_number a0 a0 && same_number a1 a1 && same_number a2 a2 && same_number a3 a3) (same_flag a4 a4)
    (both (same_number a0 a0 && same_number a1 a1 && same_number a2 a2) (same_number a3 a3)
    (both (same_number a0 a0 && same_number a1 a1) (same_number a2 a2)
    (both (same_number a0 a0) (same_number a1 a1) (same_number-whole a0) (same_number-whole a1)) (same_number-whole a2)) (same_number-whole a3))
    (same_flag-whole a4)
same_answer-whole (answers.Dropped a0) = same_number-whole a0
same_answer-whole (answers.Done a0) = same_number-whole a0
same_answer-whole (answers.Removed a0) = same_page-whole a0
same_answer-whole (answers.Left a0) = same_page-whole a0
same_answer-whole (answers.Granted a0) = same_number-whole a0
same_answer-whole (answers.Job a0 a1) = both (same_job a0 a0) (same_list a1 a1) (same_job-whole a0) (same_list-whole a1)
same_answer-whole (answers.Compacting a0 a1 a2) = both (same_job a0 a0 && same_page a1 a1) (same_list a2 a2)
    (both (same_job a0 a0) (same_page a1 a1) (same_job-whole a0) (same_page-whole a1)) (same_list-whole a2)
