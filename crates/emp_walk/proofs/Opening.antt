-- A node is opened, and what the search comes to.
use Rattle.std.proofs.Common.{◌≡◌, ℕ, suc, ◌+◌, ◌-◌, ◌≤◌, List, [], ◌∷◌, ◌++◌, arith, refl, sym, ap, ◌∙◌}
use Rattle.std.specs.Option.{option_map}
use Rattle.emp_rows.specs.declared.system.RowSystem.{RowSystem}
use Rattle.emp_dict.specs.declared.dict.Dict.{Dict}
use Rattle.emp_dict.specs.Dictionary.{Dictionary}
use Rattle.emp_dict.specs.Dicts.{dictionary_of}
use Rattle.emp_step.specs.declared.outcome.Outcome.{Outcome}
use Rattle.emp_step.specs.Steps.{ended, too_wide, spent, stepped}
use Rattle.emp_face.specs.declared.budget.Budget.{Budget}
use Rattle.emp_face.specs.Budgets.{units_left}
use Rattle.emp_search.specs.Search.{Ask, worked, decided, Finding, State, Searched, found, wide_at, out_of_units, by_decision, by_end, opened, pivots_of}
use Rattle.emp_walk.specs.declared.course.Open.{Open}
use Rattle.emp_walk.specs.declared.course.Course.{Course}
use Rattle.emp_walk.specs.Fits.{DoneFits, asks_of}
use Rattle.emp_walk.specs.Courses.{run_of, second_of, resumed, state_of, pending, CourseFits, Opened}
use Rattle.emp_walk.proofs.Fuel.{worked_left, opens}

-- ---- one node
node_opens : (s : RowSystem) (limit : ℕ) (as' : List Ask) (d : Dictionary) (st : State) → st.left ≤ limit → run_of s limit as' d st ≡ opened (run_of s limit) s limit as' d st st.left
unfolding run_of
node_opens s limit as' d st b = opens s limit limit as' d st b

node_worked : (s : RowSystem) (limit : ℕ) (as' : List Ask) (d : Dictionary) (st : State) (left : ℕ) → st.left ≤ limit → st.left ≡ suc left → run_of s limit as' d st ≡ by_end (run_of s limit) s limit st (worked s as' left d) (worked s as' left d).end
node_worked s limit as' d st left b e = node_opens s limit as' d st b ∙ ap (opened (run_of s limit) s limit as' d st) e

node_none : (s : RowSystem) (limit : ℕ) (as' : List Ask) (d : Dictionary) (st : State) → st.left ≡ 0 → run_of s limit as' d st ≡ out_of_units
node_none s limit as' d st e = node_opens s limit as' d st (omega arith) ∙ ap (opened (run_of s limit) s limit as' d st) e

-- ---- open branches
pub resumed_push : (run : List Ask → Dictionary → State → Searched) (bs : List Open) (b : Open) (r : Searched) → resumed run (bs ++ b ∷ []) r ≡ resumed run bs (second_of run b r)
resumed_push run [] b r = refl
resumed_push run (c ∷ bs) b r = ap (second_of run c) (resumed_push run bs b r)

resumed_wide : (run : List Ask → Dictionary → State → Searched) (bs : List Open) (n p : ℕ) → resumed run bs (wide_at n p) ≡ wide_at n p
resumed_wide run [] n p = refl
resumed_wide run (b ∷ bs) n p = ap (second_of run b) (resumed_wide run bs n p)

resumed_out : (run : List Ask → Dictionary → State → Searched) (bs : List Open) → resumed run bs out_of_units ≡ out_of_units
resumed_out run [] = refl
resumed_out run (b ∷ bs) = ap (second_of run b) (resumed_out run bs)

pub resumed_found : (run : List Ask → Dictionary → State → Searched) (bs : List Open) (f : Finding) (st : State) → resumed run bs (found f st) ≡ found f st
resumed_found run [] f st = refl
resumed_found run (b ∷ bs) f st = ap (second_of run b) (resumed_found run bs f st)

-- ---- the node of a course
pub one_less : (before taken : Budget) → taken.used ≡ before.used + 1 → taken.limit ≡ before.limit → units_left before ≡ suc (units_left taken)
one_less before taken u l = let k = taken.kept in omega arith

module _ (s : RowSystem) (c : Course) (taken : Budget) (used : taken.used ≡ c.budget.used + 1) (limit : taken.limit ≡ c.budget.limit) where
  course_worked : pending s c ≡ resumed (run_of s c.budget.limit) c.stack (by_end (run_of s c.budget.limit) s c.budget.limit (state_of c) (worked s (asks_of s c.asks) (units_left taken) (dictionary_of c.dict)) (worked s (asks_of s c.asks) (units_left taken) (dictionary_of c.dict)).end)
  course_worked = ap (resumed (run_of s c.budget.limit) c.stack) (node_worked s c.budget.limit (asks_of s c.asks) (dictionary_of c.dict) (state_of c) (units_left taken) (omega arith) (one_less c.budget taken used limit))

  pub open_done : (later : Budget) (e : Dict) (o : Outcome) → CourseFits s c → later.limit ≡ taken.limit → worked s (asks_of s c.asks) (units_left taken) (dictionary_of c.dict) ≡ stepped (ended o) (dictionary_of e) (units_left later) → DoneFits s (dictionary_of e) o → Opened s c (record { dict = e; asks = c.asks; stack = c.stack; best = c.best; written = c.written; nodes = c.nodes + 1; budget = later }) o
  open_done later e o fits l step done =
      let run = run_of s c.budget.limit in
      let L = c.budget.limit in
      let x = decided s (option_map dictionary_of c.best) (dictionary_of e) o in
      let more : suc c.nodes ≡ c.nodes + 1 = omega arith in
      let same : c.budget.limit ≡ later.limit = sym (l ∙ limit) in
      let few : (worked s (asks_of s c.asks) (units_left taken) (dictionary_of c.dict)).left ≤ units_left taken = worked_left s (asks_of s c.asks) (units_left taken) (dictionary_of c.dict) in
      let left : (worked s (asks_of s c.asks) (units_left taken) (dictionary_of c.dict)).left ≡ units_left later = ap (λ w. w.left) step in
      let one = one_less c.budget taken used limit in
      let nodes = fits.place.nodes in
      let kept = later.kept in
      let kept_taken = taken.kept in
      record {
        same = course_worked ∙ (ap (λ w. resumed (run_of s c.budget.limit) c.stack (by_end (run_of s c.budget.limit) s c.budget.limit (state_of c) w w.end)) step
            ∙ (ap (λ n. resumed (run_of s c.budget.limit) c.stack (by_decision (run_of s c.budget.limit) s (dictionary_of e) (record { written = c.written; best = option_map dictionary_of c.best; left = units_left later; nodes = n }) (decided s (option_map dictionary_of c.best) (dictionary_of e) o))) more
            ∙ ap (λ m. resumed (run_of s m) c.stack (by_decision (run_of s m) s (dictionary_of e) (record { written = c.written; best = option_map dictionary_of c.best; left = units_left later; nodes = c.nodes + 1 }) (decided s (option_map dictionary_of c.best) (dictionary_of e) o))) same));
        done = done;
        place = record { stack = fits.place.stack; best = fits.place.best; written = fits.place.written; nodes = omega arith };
        less = omega arith;
        limit = l ∙ limit;
      }

  pub open_wide : (later : Budget) (e : Dictionary) → later.limit ≡ taken.limit → worked s (asks_of s c.asks) (units_left taken) (dictionary_of c.dict) ≡ stepped too_wide e (units_left later) → pending s c ≡ wide_at (c.nodes + 1) (later.used - (c.nodes + 1))
  open_wide later e l step =
      let more : suc c.nodes ≡ c.nodes + 1 = omega arith in
      let kept = later.kept in
      let pivots : pivots_of c.budget.limit (units_left later) (suc c.nodes) ≡ later.used - (c.nodes + 1) = omega arith in
      course_worked ∙ (ap (λ w. resumed (run_of s c.budget.limit) c.stack (by_end (run_of s c.budget.limit) s c.budget.limit (state_of c) w w.end)) step
      ∙ (resumed_wide (run_of s c.budget.limit) c.stack (suc c.nodes) (pivots_of c.budget.limit (units_left later) (suc c.nodes)) ∙ (ap (wide_at (suc c.nodes)) pivots ∙ ap (λ n. wide_at n (later.used - (c.nodes + 1))) more)))

  pub open_spent : (e : Dictionary) (n : ℕ) → worked s (asks_of s c.asks) (units_left taken) (dictionary_of c.dict) ≡ stepped spent e n → pending s c ≡ out_of_units
  open_spent e n step =
      course_worked ∙ (ap (λ w. resumed (run_of s c.budget.limit) c.stack (by_end (run_of s c.budget.limit) s c.budget.limit (state_of c) w w.end)) step ∙ resumed_out (run_of s c.budget.limit) c.stack)

  -- the numbers that the code forms
  pub nodes_below : (later : Budget) (w : ℕ) → CourseFits s c → later.limit ≡ taken.limit → (worked s (asks_of s c.asks) (units_left taken) (dictionary_of c.dict)).left ≡ w → w ≡ units_left later → c.nodes + 1 ≤ later.used
  nodes_below later w fits l e q =
      let few : (worked s (asks_of s c.asks) (units_left taken) (dictionary_of c.dict)).left ≤ units_left taken = worked_left s (asks_of s c.asks) (units_left taken) (dictionary_of c.dict) in
      let nodes = fits.place.nodes in
      let kept = later.kept in
      let kept_taken = taken.kept in
      omega arith

pub open_none : (s : RowSystem) (c : Course) → c.budget.used ≡ c.budget.limit → pending s c ≡ out_of_units
open_none s c e = ap (resumed (run_of s c.budget.limit) c.stack) (node_none s c.budget.limit (asks_of s c.asks) (dictionary_of c.dict) (state_of c) (omega arith)) ∙ resumed_out (run_of s c.budget.limit) c.stack
