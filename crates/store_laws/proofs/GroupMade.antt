-- A group is a line's own answers and the seven lists of settling, one after the other.
use Rattle.std.proofs.Common.{◌≡◌, ℕ, false, List, [], ◌∷◌, ◌++◌, ap, subst, sym, ◌∙◌, append_assoc, append-nil}
use Rattle.std.specs.Prelude.{filter}
use Rattle.std.proofs.lemmas.List.Concat.{flat_map-append}
use Rattle.blob_words.specs.declared.tally.Tally.{Tally}
use Rattle.session_script.specs.declared.event.Event.{Event}
use Rattle.answer_text.specs.declared.answer.Answer.{Answer}
use Rattle.blob_model.specs.Session.{Session, page_limit}
use Rattle.blob_model.specs.History.{History, said_all, after, has_ended}
use Rattle.blob_model.specs.Builds.{builds}
use Rattle.blob_model.specs.Pages.{pages}
use Rattle.blob_model.specs.Tally.{tally, files}
use Rattle.blob_model.specs.Waits.{waits}
use Rattle.blob_model.specs.Live.{live}
use Rattle.blob_model.specs.Own.{IsOwn}
use Rattle.blob_model.specs.Settle.{drops, endings, removals, grants, page_jobs, compactions, settle, settle_by, is_due, IsSettled}
use Rattle.blob_model.specs.Legal.{left_file, left_files, IsLegalGroup}
use Rattle.blob_model.proofs.settled.Groups.{own_first}
use Rattle.blob_model.proofs.settled.Groups.{after_own}
use Rattle.blob_model.proofs.live.Agreement.{said_append}
use Rattle.blob_model.proofs.kept.Kept.{Kept}
use Rattle.blob_model.proofs.kept.Groups.{kept_all}
use Rattle.blob_model.proofs.kept.Groups.{kept_own}
use Rattle.blob_model.proofs.settled.Settling.{settled_once}
use Rattle.blob_model.proofs.settled.LateAnswers.{AllLate}
use Rattle.blob_model.proofs.settled.LateAnswers.{all_late}
use Rattle.blob_model.proofs.settled.LateAnswers.{live_late}
use Rattle.blob_model.proofs.settled.Removals.{removals_late}
use Rattle.blob_model.proofs.settled.GrantsAndJobs.{grants_late}
use Rattle.blob_model.proofs.settled.GrantsAndJobs.{page_jobs_still}
use Rattle.blob_model.proofs.settled.GrantsAndJobs.{compactions_still}
use Rattle.store_laws.specs.Settling.{after_drops, after_endings, after_late_drops, after_removals, after_grants, after_page_jobs, after_all, answers_of}
use Rattle.store_laws.proofs.LeftFiles.{LeavesNone, leaves-append, drops_leave, endings_leave, grants_leave, page_jobs_leave, compactions_leave, own_leaves}

-- lists that are put behind one another
joined : (o a b c d e f g : List Answer) → ((((((o ++ a) ++ b) ++ c) ++ d) ++ e) ++ f) ++ g ≡ o ++ (a ++ (b ++ (c ++ (d ++ (e ++ (f ++ (g ++ [])))))))
joined o a b c d e f g = simp (append_assoc, append-nil)

said_seven : (h : History) (a b c d e f g : List Answer)
    → said_all h (a ++ (b ++ (c ++ (d ++ (e ++ (f ++ (g ++ []))))))) ≡ said_all (said_all (said_all (said_all (said_all (said_all
    (said_all h a) b) c) d) e) f) g
said_seven h a b c d e f g =
    let ha = said_all h a in
    let hb = said_all ha b in
    let hc = said_all hb c in
    let hd = said_all hc d in
    let he = said_all hd e in
    said_append h a (b ++ (c ++ (d ++ (e ++ (f ++ (g ++ []))))))
    ∙ said_append ha b (c ++ (d ++ (e ++ (f ++ (g ++ [])))))
    ∙ said_append hb c (d ++ (e ++ (f ++ (g ++ []))))
    ∙ said_append hc d (e ++ (f ++ (g ++ [])))
    ∙ said_append hd e (f ++ (g ++ []))
    ∙ said_append he f (g ++ [])
    ∙ ap (said_all (said_all he f)) (append-nil g)

left_eight : (o a b c d e f g : List Answer) → LeavesNone o → LeavesNone a → LeavesNone b → LeavesNone c → LeavesNone e → LeavesNone f → LeavesNone g
    → left_files (((((((o ++ a) ++ b) ++ c) ++ d) ++ e) ++ f) ++ g) ≡ left_files d
left_eight o a b c d e f g zo za zb zc ze zf zg =
    let front : LeavesNone (((o ++ a) ++ b) ++ c) = leaves-append ((o ++ a) ++ b) c (leaves-append (o ++ a) b (leaves-append o a zo za) zb) zc in
    flat_map-append left_file ((((((o ++ a) ++ b) ++ c) ++ d) ++ e) ++ f) g
    ∙ ap (λ (zs : List ℕ). left_files ((((((o ++ a) ++ b) ++ c) ++ d) ++ e) ++ f) ++ zs) zg
    ∙ append-nil (left_files ((((((o ++ a) ++ b) ++ c) ++ d) ++ e) ++ f))
    ∙ flat_map-append left_file (((((o ++ a) ++ b) ++ c) ++ d) ++ e) f
    ∙ ap (λ (zs : List ℕ). left_files (((((o ++ a) ++ b) ++ c) ++ d) ++ e) ++ zs) zf
    ∙ append-nil (left_files (((((o ++ a) ++ b) ++ c) ++ d) ++ e))
    ∙ flat_map-append left_file ((((o ++ a) ++ b) ++ c) ++ d) e
    ∙ ap (λ (zs : List ℕ). left_files ((((o ++ a) ++ b) ++ c) ++ d) ++ zs) ze
    ∙ append-nil (left_files ((((o ++ a) ++ b) ++ c) ++ d))
    ∙ flat_map-append left_file (((o ++ a) ++ b) ++ c) d
    ∙ ap (λ (zs : List ℕ). zs ++ left_files d) front

module _ (s : Session) (h : History) (event : Event) (own l4 : List Answer) where
  abbrev line : History
  line = after h event own

  -- the lists make a legal group
  pub group_legal : IsOwn s h event own → l4 ≡ removals s (left_files l4) (after_late_drops s line) → has_ended h ≡ false → (counted : Tally)
      → counted ≡ tally (page_limit s) (after_all s l4 line)
      → IsLegalGroup s h (record { event = event; answers = (answers_of s own l4 line); tally = counted }) × (after h event (answers_of s own l4 line) ≡
      (after_all s l4 line))
  group_legal is removed still counted counts =
      let d1 = drops s line in
      let e2 = endings s (after_drops s line) in
      let d3 = drops s (after_endings s line) in
      let g5 = grants s (after_removals s l4 line) in
      let p6 = page_jobs s (after_grants s l4 line) in
      let c7 = compactions s (after_page_jobs s l4 line) in
      let left_is : left_files (answers_of s own l4 line) ≡ left_files l4 =
      left_eight own d1 e2 d3 l4 g5 p6 c7 (own_leaves s h event own is) (drops_leave s line) (endings_leave s (after_drops s line) (builds (page_limit s)
      (after_drops s line))) (drops_leave s (after_endings s line))
      (grants_leave s (after_removals s l4 line) (waits (page_limit s) (after_removals s l4 line))) (page_jobs_leave s (after_grants s l4 line))
      (compactions_leave s (after_page_jobs s l4 line)) in
      let rest : settle s (left_files l4) line ≡ d1 ++ (e2 ++ (d3 ++ (l4 ++ (g5 ++ (p6 ++ (c7 ++ [])))))) =
      ap (λ (list : List Answer). d1 ++ (e2 ++ (d3 ++ (list ++ settle_by (grants s ∷ page_jobs s ∷ compactions s ∷ []) (said_all
      (after_late_drops s line) list))))) (sym removed) in
      let owed : settle s (left_files (answers_of s own l4 line)) line ≡ d1 ++ (e2 ++ (d3 ++ (l4 ++ (g5 ++ (p6 ++ (c7 ++ [])))))) =
      ap (λ (left : List ℕ). settle s left line) left_is ∙ rest in
      let whole : (answers_of s own l4 line) ≡ own ++ (d1 ++ (e2 ++ (d3 ++ (l4 ++ (g5 ++ (p6 ++ (c7 ++ []))))))) = joined own d1 e2 d3 l4 g5 p6 c7 in
      let later : after h event (answers_of s own l4 line) ≡ (after_all s l4 line) =
      ap (after h event) whole ∙ after_own h event own (d1 ++ (e2 ++ (d3 ++ (l4 ++ (g5 ++ (p6 ++ (c7 ++ []))))))) (own_first s h event own is)
      ∙ said_seven line d1 e2 d3 l4 g5 p6 c7 in (
        record {
          open_still = still;
          own = own;
          is_own = is;
          settles = whole ∙ ap (λ (list : List Answer). own ++ list) (sym owed);
          counts = counts ∙ ap (tally (page_limit s)) (sym later);
        },
        later,
      )

  seven : l4 ≡ removals s (left_files l4) (after_late_drops s line) → said_all line (settle s (left_files l4) line) ≡ (after_all s l4 line)
  seven removed =
      ap (λ (list : List Answer). said_all line (drops s line ++ (endings s (after_drops s line) ++ (drops s (after_endings s line) ++ (list ++ settle_by
      (grants s ∷ page_jobs s ∷ compactions s ∷ []) (said_all (after_late_drops s line) list)))))) (sym removed)
      ∙ said_seven line (drops s line) (endings s (after_drops s line)) (drops s (after_endings s line)) l4 (grants s (after_removals s l4 line))
      (page_jobs s (after_grants s l4 line)) (compactions s (after_page_jobs s l4 line))

  -- what every legal history keeps holds after them, and nothing is owed
  pub settled_all : Kept s h → IsOwn s h event own → l4 ≡ removals s (left_files l4) (after_late_drops s line)
      → Kept s (after_all s l4 line) × IsSettled s (after_all s l4 line)
  settled_all kept is removed =
      let here : Kept s line = kept_own s h event own own [] kept is (sym (append-nil own)) in
      let path = seven removed in (
        subst (λ (g : History). Kept s g) path (kept_all s line (settle s (left_files l4) line) here),
        subst (λ (g : History). IsSettled s g) path (settled_once s (left_files l4) line here),
      )

-- the lists behind the drops of list 3 change no life
module _ (s : Session) (line : History) (l4 : List Answer) where
  pub late_removals : l4 ≡ removals s (left_files l4) (after_late_drops s line) → live (page_limit s) (after_removals s l4 line) ≡ live (page_limit s)
      (after_late_drops s line)
  late_removals removed =
      live_late (page_limit s) (after_late_drops s line) l4
      (subst AllLate (sym removed) (removals_late (left_files l4) (filter (is_due (after_late_drops s line) (files (page_limit s)
      (after_late_drops s line))) (pages (after_late_drops s line)))))

  pub late_grants : live (page_limit s) (after_grants s l4 line) ≡ live (page_limit s) (after_removals s l4 line)
  late_grants = live_late (page_limit s) (after_removals s l4 line) (grants s (after_removals s l4 line)) (grants_late s (after_removals s l4 line)
      (waits (page_limit s) (after_removals s l4 line)))

  pub late_page_jobs : live (page_limit s) (after_page_jobs s l4 line) ≡ live (page_limit s) (after_grants s l4 line)
  late_page_jobs = live_late (page_limit s) (after_grants s l4 line) (page_jobs s (after_grants s l4 line)) (all_late (page_jobs s (after_grants s l4 line))
      (page_jobs_still s (after_grants s l4 line)))

  pub late_compactions : live (page_limit s) (after_all s l4 line) ≡ live (page_limit s) (after_page_jobs s l4 line)
  late_compactions = live_late (page_limit s) (after_page_jobs s l4 line) (compactions s (after_page_jobs s l4 line)) (all_late (compactions s
      (after_page_jobs s l4 line)) (compactions_still s (after_page_jobs s l4 line)))
