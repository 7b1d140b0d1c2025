-- Segments among those of all blobs.
use Rattle.std.proofs.Common.{◌≡◌, ℕ, ◌==◌, Bool, true, false, cond, ◌||◌, ◌&&◌, List, [], ◌∷◌, refl, ap}
use Rattle.std.specs.Prelude.{map, filter}
use Rattle.std.specs.List.{list_any}
use Rattle.blob_model.specs.Transport.{has_come}
use Rattle.history_notions.specs.Kept.{Brought, is_arrival, arrivals_in}

-- a segment is among those that came where it is among those of its blob
pub come_among : (name segment : ℕ) (all : List Brought) → list_any (is_arrival name segment) all ≡ has_come (arrivals_in all name) segment
come_among name segment [] = refl
come_among name segment (one ∷ all) = by (one.blob == name) (come_among name segment all)
  where
    by : (b : Bool) → list_any (is_arrival name segment) all ≡ has_come (arrivals_in all name) segment
        → ((b && one.arrival.segment == segment) || list_any (is_arrival name segment) all)
        ≡ has_come
        (map (λ (each : Brought). each.arrival) (cond b (one ∷ filter (λ (each : Brought). each.blob == name) all)
        (filter (λ (each : Brought). each.blob == name) all)))
        segment
    by true same = ap (λ (rest : Bool). (one.arrival.segment == segment) || rest) same
    by false same = same
