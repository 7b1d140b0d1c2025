use Rattle.reach_tests.proofs.Room.{first_room}
use Rattle.reach_tests.proofs.blobs.put_paged.Goals as goal

pub returns-clause-room : goal.returns-clause-room
returns-clause-room c = first_room _ _ _ _ _ _ _ _ _ _ c.requires c.new-recipe.ensures c.in_ok-push.ensures.ok c.in_ok-register.ensures.ok
