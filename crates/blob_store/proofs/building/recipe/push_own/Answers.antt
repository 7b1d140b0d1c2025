-- One step more.
use Rattle.std.proofs.Common.{◌≡◌, ℕ, ◌+◌, List, [], ◌∷◌, ◌++◌, length, map, sym, ap, ◌∙◌, subst, arith, append_assoc}
use Rattle.std.specs.Int.{div_ceil}
use Rattle.std.specs.List.{range_with_len}
use Rattle.std.proofs.lemmas.List.FromFn.{length-map-range_with_len, map-range_with_len_more}
use Rattle.blob_entries.specs.declared.step.Step.{Step}
use Rattle.blob_entries.specs.declared.step.Step.TheVariants.{Own}
use Rattle.transport_plan.specs.Spans.{span_at}
use Rattle.store_laws.specs.PartLaws.{own_steps, piece_no}
use Rattle.blob_store.proofs.Putting.{pieces_long, steps_join}
use Rattle.blob_store.proofs.building.recipe.push_own.Goals as goal

pub loop-k-preserved : goal.loop-k-preserved
loop-k-preserved c =
    let k = c.loop-k.k in
    let size : ℕ → ℕ = λ (k : ℕ). (span_at c.args.page c.args.len k).1 in
    let before : List ℕ = map size (range_with_len 0 k) in
    let was = c.loop-k.invariant in
    let number : c.args.first + length before ≡ c.loop-k.number = omega (arith, length-map-range_with_len size 0 k, was.next) in
    let joined : own_steps c.args.first (map size (range_with_len 0 (k + 1)))
    ≡ own_steps c.args.first before ++ Own (piece_no c.loop-k.number) (size k) ∷ [] =
    ap (own_steps c.args.first) (map-range_with_len_more size 0 k k (omega arith)) ∙ steps_join c.args.first before (size k ∷ [])
    ∙ ap (λ (n : ℕ). own_steps c.args.first before ++ Own (piece_no n) (size k) ∷ []) number in
    record {
      steps = c.in_ok-push.ensures.ok ∙ ap (λ (n : ℕ). c.loop-k.recipe ++ Own (piece_no c.loop-k.number) n ∷ []) c.min.ensures
          ∙ ap (λ (list : List Step). list ++ Own (piece_no c.loop-k.number) (size k) ∷ []) was.steps
          ∙ append_assoc c.args.recipe.now (own_steps c.args.first before) (Own (piece_no c.loop-k.number) (size k) ∷ [])
          ∙ ap (λ (list : List Step). c.args.recipe.now ++ list) (sym joined);
      next = omega (arith, was.next);
    }

pub returns : goal.returns
returns c =
    let all : c.loop-k.k ≡ div_ceil c.args.len c.args.page = omega (arith, c.loop-k-test.false, c.loop-k.auto.k-end, c.div_ceil-k-end.ensures) in (
      omega (arith, c.loop-k.invariant.next, all, pieces_long c.args.page c.args.len),
      subst (λ (n : ℕ).
          c.loop-k.recipe ≡ c.args.recipe.now ++ own_steps c.args.first (map (λ (k : ℕ). (span_at c.args.page c.args.len k).1) (range_with_len 0 n))) all
          c.loop-k.invariant.steps,
    )
