-- The segment that a blob brought, found among those of all blobs.
use Rattle.std.proofs.Common.{◌≡◌, ℕ, ◌==◌, ◌&&◌, Bool, true, false, cond, List, [], ◌∷◌, Some, map, filter, refl}
use Rattle.std.specs.Prelude.{find}
use Rattle.std.specs.Option.{option_map}
use Rattle.blob_model.specs.Transport.{Arrival, brought}
use Rattle.history_notions.specs.Kept.{Brought, arrivals_in, is_arrival}

abbrev pub brought_bytes : Brought → List ℕ
brought_bytes one = one.arrival.bytes

pub brought_among : (all : List Brought) (name segment : ℕ) → brought (arrivals_in all name) segment ≡ option_map brought_bytes (find
    (is_arrival name segment) all)
brought_among [] name segment = refl
brought_among (one ∷ all) name segment = by (one.blob == name) (brought_among all name segment)
  where
    rest : List Brought
    rest = filter (λ (each : Brought). each.blob == name) all

    here : Arrival → Bool
    here arrival = arrival.segment == segment

    two : (wanted : Bool) → option_map (λ (arrival : Arrival). arrival.bytes) (find here (map (λ (each : Brought). each.arrival) rest))
        ≡ option_map brought_bytes (find (is_arrival name segment) all)
        → option_map (λ (arrival : Arrival). arrival.bytes) (cond wanted (Some one.arrival) (find here (map (λ (each : Brought). each.arrival) rest)))
        ≡ option_map brought_bytes (cond wanted (Some one) (find (is_arrival name segment) all))
    two true same = refl
    two false same = same

    by : (mine : Bool) → option_map (λ (arrival : Arrival). arrival.bytes) (find here (map (λ (each : Brought). each.arrival) rest))
        ≡ option_map brought_bytes (find (is_arrival name segment) all)
        → option_map (λ (arrival : Arrival). arrival.bytes) (find here (map (λ (each : Brought). each.arrival) (cond mine (one ∷ rest) rest)))
        ≡ option_map brought_bytes (cond (mine && one.arrival.segment == segment) (Some one) (find (is_arrival name segment) all))
    by true same = two (one.arrival.segment == segment) same
    by false same = same
