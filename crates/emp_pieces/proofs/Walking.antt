-- What comes of a node, and what comes next.
use Rattle.std.proofs.Common.{◌≡◌, ◌≤◌, ℕ, List, [], ◌∷◌, ◌++◌, Option, Some, None, arith, refl, sym, ap, ap₂, subst, ◌∙◌}
use Rattle.emp_rows.specs.declared.system.RowSystem.{RowSystem}
use Rattle.emp_rows.specs.declared.system.Kind.TheVariants.{Zero}
use Rattle.emp_rows.specs.RowPoints.{pair}
use Rattle.emp_dict.specs.Dictionary.{Dictionary, mark_at}
use Rattle.emp_dict.specs.Dicts.{dictionary_of}
use Rattle.emp_step.specs.declared.outcome.Outcome.{Outcome}
use Rattle.emp_step.specs.declared.outcome.Outcome.TheVariants.{Held}
use Rattle.emp_face.specs.declared.budget.Budget.{Budget}
use Rattle.emp_face.specs.Budgets.{units_left}
use Rattle.emp_decide.specs.Laws.{started_of}
use Rattle.emp_search.specs.Search.{Ask, fixes, asks_from}
use Rattle.emp_walk.specs.declared.asks.Asks.TheVariants.{Root}
use Rattle.emp_walk.specs.declared.fault.WalkFault.{WalkFault}
use Rattle.emp_walk.specs.Fits.{IsAt, AskFits, AsksFit, asks_of}
use Rattle.emp_walk.specs.Decisions.{SplitFits}
use Rattle.emp_walk.proofs.Deciding.{split_first}
use Rattle.emp_walk.proofs.Starting.{root_at, root_unasked}
use Rattle.emp_faces.specs.Pieces.{is_open, Waiting, Place, Coming, piece, over, child, split_at, by_pair, by_outcome, turned, next_of}
use Rattle.emp_faces.proofs.Settled.{open_free}
use Rattle.emp_pieces.specs.declared.walk.Unopened.{Unopened}
use Rattle.emp_pieces.specs.declared.walk.Piece.{Piece}
use Rattle.emp_pieces.specs.declared.walk.Walk.{Walk}
use Rattle.emp_pieces.specs.Walks.{unopened_of, behind, waiting_of, place_of, UnopenedFits, AllFit, WalkFits, IsFirst, at_node, FaultIs, Opened, IsChild, IsSplit, SettleGives, Turned, Came}
use Rattle.emp_pieces.proofs.Enough.{next_turns}

-- ---- the nodes that wait
behind_push : (s : RowSystem) (ws : List Waiting) (us : List Unopened) (u : Unopened) → behind s ws (us ++ u ∷ []) ≡ unopened_of s u ∷ behind s ws us
behind_push s ws [] u = refl
behind_push s ws (v ∷ us) u = behind_push s (unopened_of s v ∷ ws) us u

fit_last : (s : RowSystem) (us : List Unopened) (u : Unopened) → AllFit s (us ++ u ∷ []) → AllFit s us × UnopenedFits s u
fit_last s [] u h = (tt, h.0)
fit_last s (v ∷ us) u h = let r = fit_last s us u h.1 in ((h.0, r.0), r.1)

fit_more : (s : RowSystem) (us : List Unopened) (u : Unopened) → AllFit s us → UnopenedFits s u → AllFit s (us ++ u ∷ [])
fit_more s [] u h k = (k, tt)
fit_more s (v ∷ us) u h k = (h.0, fit_more s us u h.1 k)

abbrev waits : List Ask → Dictionary → List ℕ → Waiting
waits as' d path = record { asks = as'; dictionary = d; path = path }

child_same : (s : RowSystem) (d : Dictionary) (path : List ℕ) (k : ℕ) (u : Unopened) → IsChild d path k u → unopened_of s u ≡ child path d k
child_same s d path k u h =
    ap (λ a. waits (asks_of s a) (dictionary_of u.dict) u.path) h.asks ∙ (ap (λ e. waits (fixes k ∷ []) e u.path) h.dict ∙ ap (waits (fixes k ∷ []) d) h.path)

child_fits : (s : RowSystem) (d : Dictionary) (path : List ℕ) (k : ℕ) (u : Unopened) → IsChild d path k u → IsAt s d → AskFits d k Zero → UnopenedFits s u
child_fits s d path k u h a f = record {
  at = subst (IsAt s) (sym h.dict) a;
  asks = subst (AsksFit (dictionary_of u.dict)) (sym h.asks) (subst (λ e. AskFits e k Zero) (sym h.dict) f);
}

abbrev place_by : List Waiting → ℕ → ℕ → Place
place_by ws left nodes = record { waiting = ws; left = left; nodes = nodes }

-- ---- a split
split_place : (s : RowSystem) (u : Unopened) (k : ℕ) (old new : Walk) → IsSplit s u k old new → place_of s new ≡ split_at s u.path (dictionary_of u.dict) k (place_of s old)
split_place s u k old new h =
    ap (λ us. place_by (waiting_of s us) (units_left new.budget) new.nodes) h.waiting
    ∙ (ap (λ ws. place_by ws (units_left new.budget) new.nodes) (behind_push s [] (old.waiting ++ h.later ∷ []) h.next ∙ ap (λ ws. unopened_of s h.next ∷ ws) (behind_push s [] old.waiting h.later))
    ∙ (ap₂ (λ a b. place_by (a ∷ b ∷ waiting_of s old.waiting) (units_left new.budget) new.nodes) (child_same s (dictionary_of u.dict) u.path (pair s k).0 h.next h.is_next) (child_same s (dictionary_of u.dict) u.path (pair s k).1 h.later h.is_later)
    ∙ (ap (λ (b : Budget). place_by (child u.path (dictionary_of u.dict) (pair s k).0 ∷ child u.path (dictionary_of u.dict) (pair s k).1 ∷ waiting_of s old.waiting) (units_left b) new.nodes) h.budget
    ∙ ap (λ n. place_by (child u.path (dictionary_of u.dict) (pair s k).0 ∷ child u.path (dictionary_of u.dict) (pair s k).1 ∷ waiting_of s old.waiting) (units_left old.budget) n) h.nodes)))

split_fit : (s : RowSystem) (u : Unopened) (k : ℕ) (old new : Walk) → IsSplit s u k old new → IsAt s (dictionary_of u.dict) → SplitFits s (dictionary_of u.dict) k → WalkFits s old → WalkFits s new
split_fit s u k old new h a f w = record {
  waiting = subst (AllFit s) (sym h.waiting)
      (fit_more s (old.waiting ++ h.later ∷ []) h.next (fit_more s old.waiting h.later w.waiting (child_fits s (dictionary_of u.dict) u.path (pair s k).1 h.later h.is_later a f.second)) (child_fits s (dictionary_of u.dict) u.path (pair s k).0 h.next h.is_next a f.first));
  nodes = let n = h.nodes in let b : new.budget.used ≡ old.budget.used = ap (λ (x : Budget). x.used) h.budget in let m = w.nodes in omega arith;
}

-- ---- a turn
mid_fits : (s : RowSystem) (old mid : Walk) (before after : Unopened) (o : Outcome) → Opened s old before mid after o → WalkFits s old → WalkFits s mid
mid_fits s old mid before after o h w = record { waiting = subst (AllFit s) (sym h.waiting) w.waiting; nodes = h.nodes }

mid_place : (s : RowSystem) (old mid : Walk) → mid.waiting ≡ old.waiting → place_by (waiting_of s old.waiting) (units_left mid.budget) mid.nodes ≡ place_of s mid
mid_place s old mid e = ap (λ us. place_by (waiting_of s us) (units_left mid.budget) mid.nodes) (sym e)

pub held_goes : (s : RowSystem) (old mid new : Walk) (before after : Unopened) (r : Option Piece) → WalkFits s old → Opened s old before mid after Held → SettleGives s after mid new r → Turned s before old new r
held_goes s old mid new before after None w h g = record {
  dictionary = dictionary_of after.dict;
  point = tt;
  same = λ rest. h.same rest (waiting_of s old.waiting)
      ∙ (ap (by_pair rest s before.path (dictionary_of after.dict) (place_by (waiting_of s old.waiting) (units_left mid.budget) mid.nodes)) g.first
      ∙ (ap (λ p. rest (split_at s before.path (dictionary_of after.dict) g.number p)) (mid_place s old mid h.waiting)
      ∙ (ap (λ path. rest (split_at s path (dictionary_of after.dict) g.number (place_of s mid))) (sym h.path)
      ∙ ap rest (sym (split_place s after g.number mid new g.split)))));
  fits = split_fit s after g.number mid new g.split h.done.at (split_first s (dictionary_of after.dict) (is_open (dictionary_of after.dict)) g.number h.done.at (open_free (dictionary_of after.dict)) g.first) (mid_fits s old mid before after Held h w);
  less = let b : units_left new.budget ≡ units_left mid.budget = ap units_left g.split.budget in let l = h.less in omega arith;
  limit = ap (λ (b : Budget). b.limit) g.split.budget ∙ h.limit;
}
held_goes s old mid new before after (Some f) w h g = record {
  dictionary = dictionary_of after.dict;
  point = g.point;
  same = λ rest. h.same rest (waiting_of s old.waiting)
      ∙ (ap (by_pair rest s before.path (dictionary_of after.dict) (place_by (waiting_of s old.waiting) (units_left mid.budget) mid.nodes)) g.none
      ∙ (ap (piece before.path (dictionary_of after.dict)) (mid_place s old mid h.waiting ∙ ap (place_of s) (sym g.walk))
      ∙ ap (λ path. piece path (dictionary_of after.dict) (place_of s new)) (sym (g.path ∙ h.path))));
  fits = subst (WalkFits s) (sym g.walk) (mid_fits s old mid before after Held h w);
  less = let b : units_left new.budget ≡ units_left mid.budget = ap (λ (x : Walk). units_left x.budget) g.walk in let l = h.less in omega arith;
  limit = ap (λ (x : Walk). x.budget.limit) g.walk ∙ h.limit;
}

-- a node that does not hold is left
pub other_goes : (s : RowSystem) (old mid : Walk) (before after : Unopened) (o : Outcome) → ((rest : Place → Coming) (p : Place) → by_outcome rest s before.path (dictionary_of after.dict) p o ≡ rest p) → WalkFits s old → Opened s old before mid after o → Turned s before old mid None
other_goes s old mid before after o e w h = record {
  dictionary = dictionary_of after.dict;
  point = tt;
  same = λ rest. h.same rest (waiting_of s old.waiting) ∙ (e rest (place_by (waiting_of s old.waiting) (units_left mid.budget) mid.nodes) ∙ ap rest (mid_place s old mid h.waiting));
  fits = mid_fits s old mid before after o h w;
  less = h.less;
  limit = h.limit;
}

-- ---- what comes next
abbrev pub popped : Walk → List Unopened → Walk
popped w us = record { waiting = us; nodes = w.nodes; budget = w.budget }

pub popped_fits : (s : RowSystem) (w : Walk) (us : List Unopened) (u : Unopened) → w.waiting ≡ us ++ u ∷ [] → WalkFits s w → WalkFits s (popped w us) × UnopenedFits s u
popped_fits s w us u e h = let k = fit_last s us u (subst (AllFit s) e h.waiting) in (record { waiting = k.0; nodes = h.nodes }, k.1)

next_pops : (s : RowSystem) (w : Walk) (us : List Unopened) (u : Unopened) → w.waiting ≡ us ++ u ∷ [] → next_of s w.budget.limit (place_of s w) ≡ at_node (next_of s w.budget.limit) s (popped w us) u (waiting_of s us)
next_pops s w us u e = next_turns s w.budget.limit (place_of s w) ∙ ap (turned (next_of s w.budget.limit) s w.budget.limit (place_of s w)) (ap (waiting_of s) e ∙ behind_push s [] us u)

-- where the walk stands so far comes to what its start comes to
pub record Stands (s : RowSystem) (start w : Walk) : Type 0 where
  pub same : next_of s start.budget.limit (place_of s start) ≡ next_of s start.budget.limit (place_of s w)
  pub fits : WalkFits s w
  pub limit : w.budget.limit ≡ start.budget.limit
  pub most : units_left w.budget ≤ units_left start.budget

stands_node : (s : RowSystem) (start w : Walk) (us : List Unopened) (u : Unopened) → Stands s start w → w.waiting ≡ us ++ u ∷ [] → next_of s start.budget.limit (place_of s start) ≡ at_node (next_of s w.budget.limit) s (popped w us) u (waiting_of s us)
stands_node s start w us u h e = h.same ∙ (ap (λ l. next_of s l (place_of s w)) (sym h.limit) ∙ next_pops s w us u e)

pub stands_on : (s : RowSystem) (start w new : Walk) (us : List Unopened) (u : Unopened) → Stands s start w → w.waiting ≡ us ++ u ∷ [] → Turned s u (popped w us) new None → Stands s start new
stands_on s start w new us u h e t = record { same = stands_node s start w us u h e ∙ (t.same (next_of s w.budget.limit) ∙ ap (λ l. next_of s l (place_of s new)) h.limit); fits = t.fits; limit = t.limit ∙ h.limit; most = let a = t.less in let b = h.most in omega arith }

pub came_piece : (s : RowSystem) (start w new : Walk) (us : List Unopened) (u : Unopened) (f : Piece) → Stands s start w → w.waiting ≡ us ++ u ∷ [] → Turned s u (popped w us) new (Some f) → Came s start new (Some f)
came_piece s start w new us u f h e t = record { dictionary = t.dictionary; point = t.point; same = stands_node s start w us u h e ∙ t.same (next_of s w.budget.limit); fits = t.fits; limit = t.limit ∙ h.limit; fewer = let a = t.less in let b = h.most in omega arith }

pub came_over : (s : RowSystem) (start w : Walk) (us : List Unopened) → Stands s start w → w.waiting ≡ [] → us ≡ [] → Came s start (popped w us) None
came_over s start w us h e q = record {
  dictionary = started_of s;
  point = tt;
  same = h.same ∙ (next_turns s start.budget.limit (place_of s w) ∙ (ap (turned (next_of s start.budget.limit) s start.budget.limit (place_of s w)) (ap (waiting_of s) e) ∙ ap (λ vs. over (place_by (waiting_of s vs) (units_left w.budget) w.nodes)) (e ∙ sym q)));
  fits = record { waiting = subst (AllFit s) (sym q) tt; nodes = let n = h.fits.nodes in n };
  limit = h.limit;
  fewer = tt;
}

pub came_fault : (s : RowSystem) (start w : Walk) (us : List Unopened) (u : Unopened) (f : WalkFault) → Stands s start w → w.waiting ≡ us ++ u ∷ [] → ((rest : Place → Coming) → FaultIs (at_node rest s (popped w us) u (waiting_of s us)) w.budget.limit f) → FaultIs (next_of s start.budget.limit (place_of s start)) start.budget.limit f
came_fault s start w us u f h e k = subst (λ l. FaultIs (next_of s start.budget.limit (place_of s start)) l f) h.limit (subst (λ c. FaultIs c w.budget.limit f) (sym (stands_node s start w us u h e)) (k (next_of s w.budget.limit)))

-- ---- the start
pub first_is : (s : RowSystem) (limit : ℕ) (w : Walk) (u : Unopened) → w.waiting ≡ u ∷ [] → dictionary_of u.dict ≡ started_of s → u.asks ≡ Root → u.path ≡ [] → w.nodes ≡ 0 → w.budget.limit ≡ limit → w.budget.used ≡ 0 → IsFirst s limit w
first_is s limit w u e d a p n l z =
    let left : units_left w.budget ≡ limit = omega arith in
    record {
      place = ap (λ us. place_by (waiting_of s us) (units_left w.budget) w.nodes) e
          ∙ (ap (λ x. place_by (waits (asks_of s x) (dictionary_of u.dict) u.path ∷ []) (units_left w.budget) w.nodes) a
          ∙ (ap (λ x. place_by (waits (asks_from 1 s.kinds) x u.path ∷ []) (units_left w.budget) w.nodes) d
          ∙ (ap (λ x. place_by (waits (asks_from 1 s.kinds) (started_of s) x ∷ []) (units_left w.budget) w.nodes) p
          ∙ ap₂ (λ x y. place_by (waits (asks_from 1 s.kinds) (started_of s) [] ∷ []) x y) left n)));
      limit = l;
      fits = record {
        waiting = subst (AllFit s) (sym e) (
          record {
            at = subst (IsAt s) (sym d) (root_at s);
            asks = subst (AsksFit (dictionary_of u.dict)) (sym a) (λ q. ap (λ x. mark_at x q) d ∙ root_unasked s q);
          },
          tt,
        );
        nodes = omega arith;
      };
    }
