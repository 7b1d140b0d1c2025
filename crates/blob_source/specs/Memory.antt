-- What a source and a sink over memory are seen as. Own.
use Rattle.std.specs.Prelude.{ℕ, ◌==◌, Bool, List}
use Rattle.std.specs.List.{list_any}

-- whether the call of this number is to fail
abbrev pub is_listed : List ℕ → ℕ → Bool
is_listed failing call = list_any (λ listed. listed == call) failing

-- a source: the bytes to come, the calls that are to fail, the most that a call gives, and how many calls came and failed
pub record Feed : Type 0 where
  pub left : List ℕ
  pub failing : List ℕ
  pub most : ℕ
  pub calls : ℕ
  pub faults : ℕ

-- a sink: the bytes taken, the room that is left, the calls that are to fail, the most that a call takes, and how many calls came and failed
pub record Basin : Type 0 where
  pub held : List ℕ
  pub room : ℕ
  pub failing : List ℕ
  pub most : ℕ
  pub calls : ℕ
  pub faults : ℕ
