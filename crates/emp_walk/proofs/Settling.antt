-- What comes next after the work of a node is done, and the search goes on or ends.
use Rattle.std.proofs.Common.{◌≡◌, ℕ, ◌≤◌, List, [], ◌∷◌, ◌++◌, length, Option, Some, None, arith, refl, sym, ap, subst, ◌∙◌}
use Rattle.std.specs.Option.{option_map}
use Rattle.emp_rows.specs.declared.system.Kind.TheVariants.{Zero}
use Rattle.emp_rows.specs.declared.system.RowSystem.{RowSystem}
use Rattle.emp_rows.specs.RowPoints.{pair}
use Rattle.emp_cert.specs.declared.tree.Node.{Node}
use Rattle.emp_cert.specs.declared.tree.Node.TheVariants.{Branch}
use Rattle.std.proofs.lemmas.List.Elements.{All-push}
use Rattle.emp_cert.specs.Certs.{NodeFits}
use Rattle.emp_dict.specs.declared.dict.Dict.{Dict}
use Rattle.emp_dict.specs.Dictionary.{Dictionary}
use Rattle.emp_dict.specs.Dicts.{dictionary_of}
use Rattle.emp_step.specs.Laws.{HasObjective}
use Rattle.emp_face.specs.declared.budget.Budget.{Budget}
use Rattle.emp_face.specs.Budgets.{units_left}
use Rattle.emp_search.specs.Search.{Ask, fixes, leaf, branch, finding, Finding, State, Searched, closed, found, wide_at, out_of_units, writes, then_second}
use Rattle.emp_walk.specs.declared.next.Next.{Next}
use Rattle.emp_walk.specs.declared.course.Open.{Open}
use Rattle.emp_walk.specs.declared.course.End.{End}
use Rattle.emp_walk.specs.declared.course.Course.{Course}
use Rattle.emp_walk.specs.Fits.{IsAt, AskFits, AsksFit, asks_of}
use Rattle.emp_walk.specs.Decisions.{BestFits, SplitFits, decision_of}
use Rattle.emp_walk.specs.Courses.{run_of, second_of, resumed, state_of, pending, decided_at, closed_at, ending_of, OpenFits, StackFits, PlaceFits, CourseFits, EndFits, WrittenFit, LeafFits, Popped, CloseGives, wrote, IsKept, IsSplit, GoesOn, Finishes, Goes}
use Rattle.emp_walk.proofs.Opening.{resumed_push, resumed_found}

-- ---- the open branches
stack_last : (s : RowSystem) (bs : List Open) (b : Open) → StackFits s (bs ++ b ∷ []) → StackFits s bs × OpenFits s b
stack_last s [] b h = (tt, h.0)
stack_last s (c ∷ bs) b h = let r = stack_last s bs b h.1 in ((h.0, r.0), r.1)

stack_more : (s : RowSystem) (bs : List Open) (b : Open) → StackFits s bs → OpenFits s b → StackFits s (bs ++ b ∷ [])
stack_more s [] b h k = (k, tt)
stack_more s (c ∷ bs) b h k = (h.0, stack_more s bs b h.1 k)

-- the state of these parts
abbrev state_by : List Node → Option Dict → ℕ → Budget → State
state_by written best nodes budget = record { written = written; best = option_map dictionary_of best; left = units_left budget; nodes = nodes }

state_same : (old new : Course) → new.best ≡ old.best → new.written ≡ old.written → new.nodes ≡ old.nodes → new.budget ≡ old.budget → state_of new ≡ state_of old
state_same old new b w n u =
    ap (λ x. state_by x new.best new.nodes new.budget) w ∙ (ap (λ x. state_by old.written x new.nodes new.budget) b ∙ (ap (λ x. state_by old.written old.best x new.budget) n ∙ ap (λ x. state_by old.written old.best old.nodes x) u))

nodes_same : (old new : Course) → new.nodes ≡ old.nodes → new.budget ≡ old.budget → old.nodes ≤ old.budget.used → new.nodes ≤ new.budget.used
nodes_same old new n u h = let k : new.budget.used ≡ old.budget.used = ap (λ (b : Budget). b.used) u in omega arith

-- ---- the node and all below it are done
popped_same : (s : RowSystem) (old new : Course) → (p : Popped old new) → closed_at s old ≡ pending s new
popped_same s old new p =
    let b : Open = record { dict = new.dict; second = p.second } in
    ap (λ bs. resumed (run_of s old.budget.limit) bs (closed (state_of old))) p.stack
    ∙ (resumed_push (run_of s old.budget.limit) new.stack b (closed (state_of old))
    ∙ (ap (λ st. resumed (run_of s old.budget.limit) new.stack (run_of s old.budget.limit (fixes p.second ∷ []) (dictionary_of new.dict) st)) (sym (state_same old new p.best p.written p.nodes p.budget))
    ∙ (ap (λ (u : Budget). resumed (run_of s u.limit) new.stack (run_of s u.limit (fixes p.second ∷ []) (dictionary_of new.dict) (state_of new))) (sym p.budget)
    ∙ ap (λ a. resumed (run_of s new.budget.limit) new.stack (run_of s new.budget.limit (asks_of s a) (dictionary_of new.dict) (state_of new))) (sym p.asks))))

popped_fits : (s : RowSystem) (old new : Course) → PlaceFits s old → (p : Popped old new) → CourseFits s new
popped_fits s old new h p =
    let b : Open = record { dict = new.dict; second = p.second } in
    let k = stack_last s new.stack b (subst (StackFits s) p.stack h.stack) in
    record {
      at = k.1.at;
      asks = subst (AsksFit (dictionary_of new.dict)) (sym p.asks) k.1.second;
      place = record { stack = k.0; best = subst BestFits (sym p.best) h.best; written = subst (WrittenFit s) (sym p.written) h.written; nodes = nodes_same old new p.nodes p.budget h.nodes };
    }

pub closing : (s : RowSystem) (old new : Course) (e : Option End) → PlaceFits s old → CloseGives old new e → Goes s (closed_at s old) new e
closing s old new None h p = record { same = popped_same s old new p; fits = popped_fits s old new h p }
closing s old new (Some e) h p = record {
  same = ap (λ bs. resumed (run_of s old.budget.limit) bs (closed (state_of old))) p.1 ∙ (ap (λ (c : Course). closed (state_of c)) (sym p.2) ∙ ap (ending_of new) (sym p.0));
  fits = subst (EndFits new) (sym p.0) tt;
  written = subst (λ (c : Course). WrittenFit s c.written) (sym p.2) h.written;
}

-- ---- leaves
wrote_fits : (s : RowSystem) (c : Course) (n : Node) → IsAt s (dictionary_of c.dict) → PlaceFits s c → LeafFits (dictionary_of c.dict) n → PlaceFits s (wrote c n)
wrote_fits s c n a h f = record {
  stack = h.stack;
  best = h.best;
  written = All-push (NodeFits (length s.pairs) (length s.quantities)) c.written n h.written (subst (λ q. NodeFits (length s.pairs) q n) a.dictionary.marks (f (length s.pairs)));
  nodes = h.nodes;
}

pub leaf_goes : (s : RowSystem) (old mid new : Course) (n : Node) (x : Next) (e : Option End) → IsAt s (dictionary_of old.dict) → PlaceFits s old → LeafFits (dictionary_of old.dict) n → decision_of (option_map dictionary_of old.best) (dictionary_of old.dict) x ≡ leaf n (option_map dictionary_of old.best) → mid ≡ wrote old n → CloseGives mid new e → Goes s (decided_at s old (decision_of (option_map dictionary_of old.best) (dictionary_of old.dict) x)) new e
leaf_goes s old mid new n x e a h f q w g =
    subst (λ r. Goes s r new e) (sym (ap (decided_at s old) q)) (closing s (wrote old n) new e (wrote_fits s old n a h f) (subst (λ m. CloseGives m new e) w g))

best_kept : (b : Option Dict) (d : Dictionary) → option_map dictionary_of b ≡ Some d → HasObjective d → BestFits b
best_kept None d e h = absurd (cc)
best_kept (Some x) d e h = let same : d ≡ dictionary_of x = cc in subst HasObjective same h

kept_same : (s : RowSystem) (c kept : Course) (d : Dictionary) → IsKept c kept → dictionary_of c.dict ≡ d → closed_at s kept ≡ resumed (run_of s c.budget.limit) c.stack (closed (record { written = c.written; best = Some d; left = units_left c.budget; nodes = c.nodes }))
kept_same s c kept d k q =
    ap (λ bs. resumed (run_of s kept.budget.limit) bs (closed (state_of kept))) k.stack
    ∙ (ap (λ b. resumed (run_of s kept.budget.limit) c.stack (closed (record { written = kept.written; best = b; left = units_left kept.budget; nodes = kept.nodes }))) (k.best ∙ ap Some q)
    ∙ (ap (λ w. resumed (run_of s kept.budget.limit) c.stack (closed (record { written = w; best = Some d; left = units_left kept.budget; nodes = kept.nodes }))) k.written
    ∙ (ap (λ n. resumed (run_of s kept.budget.limit) c.stack (closed (record { written = c.written; best = Some d; left = units_left kept.budget; nodes = n }))) k.nodes
    ∙ ap (λ (u : Budget). resumed (run_of s u.limit) c.stack (closed (record { written = c.written; best = Some d; left = units_left u; nodes = c.nodes }))) k.budget)))

kept_fits : (s : RowSystem) (c kept : Course) → PlaceFits s c → HasObjective (dictionary_of c.dict) → IsKept c kept → PlaceFits s kept
kept_fits s c kept h o k = record { stack = subst (StackFits s) (sym k.stack) h.stack; best = best_kept kept.best (dictionary_of c.dict) k.best o; written = subst (WrittenFit s) (sym k.written) h.written; nodes = nodes_same c kept k.nodes k.budget h.nodes }

pub better_goes : (s : RowSystem) (old mid kept new : Course) (n : Node) (x : Next) (e : Option End) → IsAt s (dictionary_of old.dict) → PlaceFits s old → LeafFits (dictionary_of old.dict) n → HasObjective (dictionary_of old.dict) → decision_of (option_map dictionary_of old.best) (dictionary_of old.dict) x ≡ leaf n (Some (dictionary_of old.dict)) → mid ≡ wrote old n → IsKept mid kept → CloseGives kept new e → Goes s (decided_at s old (decision_of (option_map dictionary_of old.best) (dictionary_of old.dict) x)) new e
better_goes s old mid kept new n x e a h f o q w k g =
    let k' : IsKept (wrote old n) kept = subst (λ m. IsKept m kept) w k in
    let fits : PlaceFits s kept = kept_fits s (wrote old n) kept (wrote_fits s old n a h f) o k' in
    subst (λ r. Goes s r new e) (kept_same s (wrote old n) kept (dictionary_of old.dict) k' refl ∙ sym (ap (decided_at s old) q)) (closing s kept new e fits g)

-- ---- a pair is split
then_same : (s : RowSystem) (run : List Ask → Dictionary → State → Searched) (k : ℕ) (d : Dictionary) (b : Dict) → dictionary_of b ≡ d → (r : Searched) → then_second run s k d r ≡ second_of run (record { dict = b; second = (pair s k).1 }) r
then_same s run k d b e (closed st) = ap (λ x. run (fixes (pair s k).1 ∷ []) x st) (sym e)
then_same s run k d b e (found f st) = refl
then_same s run k d b e (wide_at n p) = refl
then_same s run k d b e out_of_units = refl

split_state : (s : RowSystem) (k : ℕ) (old new : Course) → IsSplit s k old new → state_of new ≡ writes (Branch k) (option_map dictionary_of old.best) (state_of old)
split_state s k old new p =
    ap (λ x. state_by x new.best new.nodes new.budget) p.written ∙ (ap (λ x. state_by (old.written ++ Branch k ∷ []) x new.nodes new.budget) p.best ∙ (ap (λ x. state_by (old.written ++ Branch k ∷ []) old.best x new.budget) p.nodes ∙ ap (λ x. state_by (old.written ++ Branch k ∷ []) old.best old.nodes x) p.budget))

split_same : (s : RowSystem) (k : ℕ) (old new : Course) → (p : IsSplit s k old new) → decided_at s old (branch k) ≡ pending s new
split_same s k old new p =
    let b : Open = record { dict = p.kept; second = (pair s k).1 } in
    let d = dictionary_of old.dict in
    ap (resumed (run_of s old.budget.limit) old.stack) (then_same s (run_of s old.budget.limit) k (dictionary_of old.dict) p.kept p.same (run_of s old.budget.limit (fixes (pair s k).0 ∷ []) (dictionary_of old.dict) (writes (Branch k) (option_map dictionary_of old.best) (state_of old))))
    ∙ (sym (resumed_push (run_of s old.budget.limit) old.stack b (run_of s old.budget.limit (fixes (pair s k).0 ∷ []) (dictionary_of old.dict) (writes (Branch k) (option_map dictionary_of old.best) (state_of old))))
    ∙ (ap (λ bs. resumed (run_of s old.budget.limit) bs (run_of s old.budget.limit (fixes (pair s k).0 ∷ []) (dictionary_of old.dict) (writes (Branch k) (option_map dictionary_of old.best) (state_of old)))) (sym p.stack)
    ∙ (ap (λ st. resumed (run_of s old.budget.limit) new.stack (run_of s old.budget.limit (fixes (pair s k).0 ∷ []) (dictionary_of old.dict) st)) (sym (split_state s k old new p))
    ∙ (ap (λ (x : Dict). resumed (run_of s old.budget.limit) new.stack (run_of s old.budget.limit (fixes (pair s k).0 ∷ []) (dictionary_of x) (state_of new))) (sym p.dict)
    ∙ (ap (λ (u : Budget). resumed (run_of s u.limit) new.stack (run_of s u.limit (fixes (pair s k).0 ∷ []) (dictionary_of new.dict) (state_of new))) (sym p.budget)
    ∙ ap (λ a. resumed (run_of s new.budget.limit) new.stack (run_of s new.budget.limit (asks_of s a) (dictionary_of new.dict) (state_of new))) (sym p.asks))))))

pub split_goes : (s : RowSystem) (k : ℕ) (old new : Course) (x : Next) → IsAt s (dictionary_of old.dict) → PlaceFits s old → SplitFits s (dictionary_of old.dict) k → decision_of (option_map dictionary_of old.best) (dictionary_of old.dict) x ≡ branch k → IsSplit s k old new → GoesOn s (decided_at s old (decision_of (option_map dictionary_of old.best) (dictionary_of old.dict) x)) new
split_goes s k old new x a h f q p = record {
  same = ap (decided_at s old) q ∙ split_same s k old new p;
  fits = record {
    at = subst (λ (y : Dict). IsAt s (dictionary_of y)) (sym p.dict) a;
    asks = subst (AsksFit (dictionary_of new.dict)) (sym p.asks) (subst (λ (y : Dict). AskFits (dictionary_of y) (pair s k).0 Zero) (sym p.dict) f.first);
    place = record {
      stack = subst (StackFits s) (sym p.stack) (stack_more s old.stack (record { dict = p.kept; second = (pair s k).1 }) h.stack (record { at = subst (IsAt s) (sym p.same) a; second = subst (λ y. AskFits y (pair s k).1 Zero) (sym p.same) f.second }));
      best = subst BestFits (sym p.best) h.best;
      written = subst (WrittenFit s) (sym p.written) (All-push (NodeFits (length s.pairs) (length s.quantities)) old.written (Branch k) h.written (f.above, f.within));
      nodes = nodes_same old new p.nodes p.budget h.nodes;
    };
  };
}

-- ---- the search ends
pub found_goes : (s : RowSystem) (c : Course) (f : Finding) (x : Next) (e : End) → decision_of (option_map dictionary_of c.best) (dictionary_of c.dict) x ≡ finding f → found f (state_of c) ≡ ending_of c e → EndFits c e → PlaceFits s c → Finishes s (decided_at s c (decision_of (option_map dictionary_of c.best) (dictionary_of c.dict) x)) c e
found_goes s c f x e q r h p = record { same = ap (decided_at s c) q ∙ (resumed_found (run_of s c.budget.limit) c.stack f (state_of c) ∙ r); fits = h; written = p.written }
