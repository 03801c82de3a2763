-- In and out.
use Rattle.std.proofs.Common.{◌≡◌, ◌<◌, List, [], ◌∷◌, length, drop, refl, ap, ◌∙◌, subst, ℤ, arith}
use Rattle.std.specs.Prelude.{slice_index_or}
use Rattle.fzn_model.specs.Parts.{Parts}
use Rattle.dom_store.specs.Stores.{Stored, latest}
use Rattle.search_core.specs.declared.decision.Decision.{Decision}
use Rattle.prop_engine.specs.Plans.{IsReady}
use Rattle.prop_engine.proofs.Ready.{ready_pushed}
use Rattle.explorer.specs.Benches.{IsBench}
use Rattle.explorer.specs.Frames.{Levels}
use Rattle.explorer.specs.Ending.{IsStart, HasLevels}
use Rattle.explorer.specs.declared.bench.Bench.{Bench}
use Rattle.explorer.specs.declared.frame.Frame.{Frame}
use Rattle.explorer.proofs.Frames.{levels_length}

pub starts : (m : Parts) (p : List Decision) (t n : Bench) → IsBench m t → n.store ≡ record t.store { saved = t.store.box ∷ t.store.saved; settled = latest t.store.settled ∷ t.store.settled } → n.here ≡ p → n.frames ≡ t.frames → n.engine ≡ t.engine → IsStart m p n
starts m p t n b e here frames plan = record {
  domains = ap (λ (s : Stored). s.box) e ∙ b.domains;
  one_level = ap (λ (s : Stored). s.saved) e ∙ rw (b.domains, b.no_level) refl;
  plan = plan ∙ b.plan;
  path = here;
  no_frame = frames ∙ b.no_frame;
}

pub able_started : (m : Parts) (t : Bench) (n : Stored) → IsBench m t → n ≡ record t.store { saved = t.store.box ∷ t.store.saved; settled = latest t.store.settled ∷ t.store.settled } → IsReady n t.engine
able_started m t n b e = ready_pushed t.engine t.store n (ap (λ (s : Stored). s.settled) e) b.able

less_cases : (f : Frame) (fs : List Frame) (saved root : List (List (List ℤ))) → Levels (f ∷ fs) saved root → Levels fs (drop 1 saved) root
unfolding Levels
less_cases f fs [] root lv = absurd lv
less_cases f fs (box ∷ rest) root lv = lv

pub levels_less : (t n : Bench) (f : Frame) (area : List (List ℤ)) → t.frames ≡ f ∷ n.frames → n.store.saved ≡ drop 1 t.store.saved → HasLevels t area → HasLevels n area
unfolding HasLevels
levels_less t n f area e h lv = rw h (less_cases f n.frames t.store.saved (area ∷ []) (subst (λ (fs : List Frame). Levels fs t.store.saved (area ∷ [])) e lv))

pub levels_none : (t n : Bench) (area : List (List ℤ)) → t.frames ≡ [] → n.frames ≡ [] → n.store.saved ≡ t.store.saved → HasLevels t area → HasLevels n area
unfolding HasLevels
levels_none t n area e i h lv = rw (i, h) (subst (λ (fs : List Frame). Levels fs t.store.saved (area ∷ [])) e lv)

pub levels_same : (t n : Bench) (area : List (List ℤ)) → n.frames ≡ t.frames → n.store.saved ≡ t.store.saved → HasLevels t area → HasLevels n area
unfolding HasLevels
levels_same t n area e h lv = rw (e, h) lv

pub levels_few : (t : Bench) → (area : List (List ℤ)) × HasLevels t area → length t.frames < length t.store.saved
unfolding HasLevels
levels_few t h = omega (arith, levels_length t.frames t.store.saved (h.0 ∷ []) h.1)

last_level : (fs : List Frame) (saved : List (List (List ℤ))) (area : List (List ℤ)) → fs ≡ [] → Levels fs saved (area ∷ []) → saved ≡ area ∷ []
unfolding Levels
last_level [] saved area e lv = lv
last_level (f ∷ fs) saved area e lv = cc

pub left_box : (t : Bench) (area top : List (List ℤ)) → t.frames ≡ [] → HasLevels t area → top ≡ slice_index_or t.store.saved 0 [] → top ≡ area
unfolding HasLevels
left_box t area top none lv e = e ∙ ap (λ (s : List (List (List ℤ))). slice_index_or s 0 []) (last_level t.frames t.store.saved area none lv)

pub left_saved : (t : Bench) (area : List (List ℤ)) (saved : List (List (List ℤ))) → t.frames ≡ [] → HasLevels t area → saved ≡ drop 1 t.store.saved → saved ≡ []
unfolding HasLevels
left_saved t area saved none lv e = e ∙ ap (λ (s : List (List (List ℤ))). drop 1 s) (last_level t.frames t.store.saved area none lv)
