-- What a call on a table of objects answers and leaves. Own.
use Rattle.std.specs.Prelude.{ℕ, ◌≡◌, ◌≤◌, false, drop, length, take, List, Result, Ok, Err, IfSome, IsSomeAnd, OnErr, OnOk}
use Rattle.blob_source.specs.Faults.{Rose}
use Rattle.blob_words.specs.declared.fault.Failed.{Failed}
use Rattle.data_handles.specs.declared.fault.SlotFault.{SlotFault}
use Rattle.data_handles.specs.Table.{claimed_at, counted_at, faults_at, is_claimed_at, object_at, SlotFaultAt, Table}

-- the size of the object in a slot that can be claimed, or why it can't be
abbrev pub CanClaim : Table → ℕ → Result ℕ SlotFault → Type 0
CanClaim table k (Ok size) = (is_claimed_at table k ≡ false) × IsSomeAnd (object_at table k) (λ handle. handle.size ≡ size)
CanClaim table k (Err fault) = SlotFaultAt table k fault

-- the slot was claimed, or nothing changed
abbrev pub Claims : Table → ℕ → Result ℕ SlotFault → Table → Type 0
Claims old k (Ok size) new = CanClaim old k (Ok size) × (new ≡ claimed_at old k)
Claims old k (Err fault) new = SlotFaultAt old k fault × (new ≡ old)

-- `out` became what the object in a slot has from a place on, or the object's count rose and nothing else changed
pub record Reads (old : Table) (k off : ℕ) (out : List ℕ) (result : Result Unit Failed) (new : Table) (filled : List ℕ) : Type 0 where
  pub rest : new ≡ counted_at old k (faults_at new k)
  pub bytes : OnOk result (IsSomeAnd (object_at old k) (λ handle. IfSome handle.told (λ bytes. filled ≡ take (length out) (drop off bytes))))
  pub good : OnOk result (new ≡ old)
  pub failed : OnErr result (Rose (faults_at old k) (faults_at new k))
  pub later : faults_at old k ≤ faults_at new k
