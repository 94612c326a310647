-- A node is opened.
use Rattle.std.proofs.Common.{◌≡◌, ℕ, suc, ◌+◌, ◌-◌, ◌≤◌, List, arith, refl, ap, ◌∙◌}
use Rattle.emp_rows.specs.declared.system.RowSystem.{RowSystem}
use Rattle.emp_dict.specs.declared.dict.Dict.{Dict}
use Rattle.emp_dict.specs.Dictionary.{Dictionary}
use Rattle.emp_dict.specs.Dicts.{dictionary_of}
use Rattle.emp_step.specs.declared.outcome.Outcome.{Outcome}
use Rattle.emp_step.specs.Steps.{ended, too_wide, spent, stepped}
use Rattle.emp_face.specs.declared.budget.Budget.{Budget}
use Rattle.emp_face.specs.Budgets.{units_left}
use Rattle.emp_search.specs.Search.{asked, pivots_of}
use Rattle.emp_walk.specs.Fits.{DoneFits, asks_of}
use Rattle.emp_walk.proofs.Fuel.{asked_left}
use Rattle.emp_walk.proofs.Opening.{one_less}
use Rattle.emp_faces.specs.Pieces.{Waiting, Place, Coming, wide_at, out_of_units, by_outcome, by_end, opened}
use Rattle.emp_pieces.specs.declared.walk.Unopened.{Unopened}
use Rattle.emp_pieces.specs.declared.walk.Walk.{Walk}
use Rattle.emp_pieces.specs.Walks.{unopened_of, WalkFits, at_node, Opened}

module _ (s : RowSystem) (old : Walk) (u : Unopened) (taken : Budget) (used : taken.used ≡ old.budget.used + 1) (limit : taken.limit ≡ old.budget.limit) where
  node_asked : (rest : Place → Coming) (others : List Waiting) → at_node rest s old u others ≡ by_end rest s old.budget.limit u.path others (suc old.nodes) (asked (asks_of s u.asks) (units_left taken) (dictionary_of u.dict)) (asked (asks_of s u.asks) (units_left taken) (dictionary_of u.dict)).end
  node_asked rest others = ap (opened rest s old.budget.limit (unopened_of s u) others old.nodes) (one_less old.budget taken used limit)

  pub open_done : (later : Budget) (e : Dict) (o : Outcome) → WalkFits s old → later.limit ≡ taken.limit → asked (asks_of s u.asks) (units_left taken) (dictionary_of u.dict) ≡ stepped (ended o) (dictionary_of e) (units_left later) → DoneFits s (dictionary_of e) o → Opened s old u (record { waiting = old.waiting; nodes = old.nodes + 1; budget = later }) (record { dict = e; asks = u.asks; path = u.path }) o
  open_done later e o fits l step done =
      let more : suc old.nodes ≡ old.nodes + 1 = omega arith in
      let few : (asked (asks_of s u.asks) (units_left taken) (dictionary_of u.dict)).left ≤ units_left taken = asked_left (asks_of s u.asks) (units_left taken) (dictionary_of u.dict) in
      let left : (asked (asks_of s u.asks) (units_left taken) (dictionary_of u.dict)).left ≡ units_left later = ap (λ w. w.left) step in
      let one = one_less old.budget taken used limit in
      let nodes = fits.nodes in
      let kept = later.kept in
      let kept_taken = taken.kept in
      record {
        same = λ rest others. node_asked rest others ∙ (ap (λ w. by_end rest s old.budget.limit u.path others (suc old.nodes) w w.end) step ∙ ap (λ n. by_outcome rest s u.path (dictionary_of e) (record { waiting = others; left = units_left later; nodes = n }) o) more);
        done = done;
        path = refl;
        waiting = refl;
        nodes = omega arith;
        less = omega arith;
        limit = l ∙ limit;
      }

  pub open_wide : (later : Budget) (e : Dictionary) → later.limit ≡ taken.limit → asked (asks_of s u.asks) (units_left taken) (dictionary_of u.dict) ≡ stepped too_wide e (units_left later) → (rest : Place → Coming) (others : List Waiting) → at_node rest s old u others ≡ wide_at (old.nodes + 1) (later.used - (old.nodes + 1))
  open_wide later e l step rest others =
      let more : suc old.nodes ≡ old.nodes + 1 = omega arith in
      let kept = later.kept in
      let pivots : pivots_of old.budget.limit (units_left later) (suc old.nodes) ≡ later.used - (old.nodes + 1) = omega arith in
      node_asked rest others ∙ (ap (λ w. by_end rest s old.budget.limit u.path others (suc old.nodes) w w.end) step ∙ (ap (wide_at (suc old.nodes)) pivots ∙ ap (λ n. wide_at n (later.used - (old.nodes + 1))) more))

  pub open_spent : (e : Dictionary) (n : ℕ) → asked (asks_of s u.asks) (units_left taken) (dictionary_of u.dict) ≡ stepped spent e n → (rest : Place → Coming) (others : List Waiting) → at_node rest s old u others ≡ out_of_units
  open_spent e n step rest others = node_asked rest others ∙ ap (λ w. by_end rest s old.budget.limit u.path others (suc old.nodes) w w.end) step

  -- the numbers that the code forms
  pub nodes_below : (later : Budget) (w : ℕ) → WalkFits s old → later.limit ≡ taken.limit → (asked (asks_of s u.asks) (units_left taken) (dictionary_of u.dict)).left ≡ w → w ≡ units_left later → old.nodes + 1 ≤ later.used
  nodes_below later w fits l e q =
      let few : (asked (asks_of s u.asks) (units_left taken) (dictionary_of u.dict)).left ≤ units_left taken = asked_left (asks_of s u.asks) (units_left taken) (dictionary_of u.dict) in
      let nodes = fits.nodes in
      let kept = later.kept in
      let kept_taken = taken.kept in
      omega arith

pub open_none : (s : RowSystem) (old : Walk) (u : Unopened) → old.budget.used ≡ old.budget.limit → (rest : Place → Coming) (others : List Waiting) → at_node rest s old u others ≡ out_of_units
open_none s old u e rest others = let none : units_left old.budget ≡ 0 = omega arith in ap (opened rest s old.budget.limit (unopened_of s u) others old.nodes) none
