-- The row system of a problem is that of its game.
use Rattle.std.proofs.Common.{◌≡◌, ℕ, zero, suc, ◌+◌, ◌<◌, ◌≤◌, ℤ, pos, List, [], ◌∷◌, ◌++◌, length, get_or, take, map, Option, Some, None, Err, refl, sym, ap, subst, ◌∙◌, arith, length-append}
use Rattle.std.specs.List.{All}
use Rattle.std.proofs.lemmas.List.{length-map, take_all, get_or_append_left}
use Rattle.emp_rows.specs.declared.affine.Affine.{Affine}
use Rattle.emp_rows.specs.declared.system.Kind.{Kind}
use Rattle.emp_rows.specs.declared.system.RowSystem.{RowSystem}
use Rattle.emp_rows.specs.Affine.{IsRow}
use Rattle.emp_rows.specs.Systems.{IsSystem, IsMember, members, AllDiffer}
use Rattle.emp_game.specs.Game.{Row as GameRow}
use Rattle.emp_split.specs.Games.{coordinates}
use Rattle.emp_conditions.specs.Base.{base_slots}
use Rattle.emp_conditions.specs.Rows.{conditions}
use Rattle.emp_quantities.specs.System.{rows_of, kinds_of, pairs_of}
use Rattle.emp_problem.specs.declared.problem.LeaderPart.{LeaderPart}
use Rattle.emp_problem.specs.declared.problem.AgentProblem.{AgentProblem}
use Rattle.emp_problem.specs.Problem.{left_of, lin_row, game_leader, game, IsOver}
use Rattle.emp_kkt.specs.declared.extras.Extra.{Extra}
use Rattle.emp_kkt.specs.declared.asked.Item.{Item}
use Rattle.emp_kkt.specs.declared.asked.Item.TheVariants.{Goal}
use Rattle.emp_kkt.specs.declared.make.KktFault.{KktFault}
use Rattle.emp_kkt.specs.declared.make.KktFault.TheVariants.{TooLarge, WideRow, NoMemory}
use Rattle.emp_kkt.specs.Items.{shape, base_of, leader_goal, asked, items, asked_kinds, asked_pairs}
use Rattle.emp_quantities.specs.Over.{IsMultipleOver, IsObjectiveOver, AreMultiplesOver}
use Rattle.emp_kkt.specs.Gives.{KktGives, IsFit, Fits, base_count, IsWideItem, AreMadeOf, IsGoalMade, goal_items, numbered, IsFirstWide, IsKkt}
use Rattle.emp_kkt.specs.Making.{IsLayout, AreRows, RowsGive, IsObjectiveRow, HasLeader, ObjectiveGives}
use Rattle.emp_kkt.proofs.Shapes.{base_same}
use Rattle.emp_kkt.proofs.Meeting.{item_row, asked_meets, rows_meet, kinds_meet, pairs_meet}
use Rattle.emp_kkt.proofs.Members.{kinds_count, first_members, second_members, all_differ}
use Rattle.emp_kkt.proofs.Weights.{coordinates_are}
use Rattle.emp_kkt.proofs.Within.{all_in}
use Rattle.emp_kkt.proofs.Overs.{item_multiple, items_multiples}

-- ---- sizes
pub base_is : (pr : AgentProblem) (xs : List Extra) → IsLayout pr xs → length pr.variables + length xs ≡ base_count pr
base_is pr xs h =
    let e : length xs ≡ length (base_slots (shape pr)) = sym (length-map xs base_of) ∙ ap length h.are in
    let c = coordinates_are pr in
    omega (arith, e, c)

pub extras_count : (pr : AgentProblem) (xs : List Extra) → map base_of xs ≡ base_slots (shape pr) → length pr.variables + length xs ≡ base_count pr
extras_count pr xs h =
    let e : length xs ≡ length (base_slots (shape pr)) = sym (length-map xs base_of) ∙ ap length h in
    let c = coordinates_are pr in
    omega (arith, e, c)

pub items_count : (pr : AgentProblem) → IsFit pr → length (rows_of (conditions (shape pr))) ≡ length (items pr)
items_count pr fit = ap (λ cs. length (rows_of cs)) (asked_meets (pos 1) pr fit.functions) ∙ (ap length (rows_meet (pos 1) pr (asked pr)) ∙ length-map (items pr) (item_row (pos 1) pr))

pub fits : (pr : AgentProblem) (xs : List Extra) → IsFit pr → IsLayout pr xs → length (items pr) ≤ 512 → Fits pr
fits pr xs fit h l = (let e = base_is pr xs h in let f = h.few in omega (arith, e, f), let e = items_count pr fit in omega (arith, e, l))

pub many_items : (pr : AgentProblem) → IsFit pr → 512 < length (items pr) → Fits pr → ⊥
many_items pr fit l f = let e = items_count pr fit in let g = f.1 in omega (arith, e, l, g)

pub many_base : (pr : AgentProblem) (xs : List Extra) → map base_of xs ≡ base_slots (shape pr) → 256 < length pr.variables + length xs → Fits pr → ⊥
many_base pr xs h l f = let e = extras_count pr xs h in let g = f.0 in omega (arith, e, l, g)

-- ---- what the type keeps
pub system_sound : (pr : AgentProblem) (base : ℕ) (qs : List Affine) (kinds : List Kind) (pairs : List (ℕ × ℕ)) (objective : Option Affine) → base ≤ 256 → length (items pr) ≤ 512 → length qs ≡ length (items pr) → All (IsRow base) qs → kinds ≡ asked_kinds (asked pr) → pairs ≡ asked_pairs 0 (asked pr) → ((r : Affine) → objective ≡ Some r → IsRow base r) → IsSystem base qs kinds pairs objective
system_sound pr base qs kinds pairs objective few l count rows k p o = record {
  few_variables = few;
  few_quantities = omega (arith, l, count);
  one_kind_each = ap length k ∙ (kinds_count (asked pr) ∙ sym count);
  rows = rows;
  first_members = subst (λ (ks : List Kind). All (λ p. IsMember ks p.0) pairs) (sym k) (subst (λ (ps : List (ℕ × ℕ)). All (λ p. IsMember (asked_kinds (asked pr)) p.0) ps) (sym p) (first_members (asked pr)));
  second_members = subst (λ (ks : List Kind). All (λ p. IsMember ks p.1) pairs) (sym k) (subst (λ (ps : List (ℕ × ℕ)). All (λ p. IsMember (asked_kinds (asked pr)) p.1) ps) (sym p) (second_members (asked pr)));
  apart = subst (λ (ps : List (ℕ × ℕ)). AllDiffer (members ps)) (sym p) (all_differ (asked pr));
  objective_row = o;
}

pub made_count : (pr : AgentProblem) (n : ℕ) (is : List Item) (qs : List Affine) → AreMadeOf pr n is qs → length qs ≡ length is
made_count pr n [] [] h = refl
made_count pr n [] (q ∷ qs) h = absurd h
made_count pr n (i ∷ is) [] h = absurd h
made_count pr n (i ∷ is) (q ∷ qs) h = ap suc (made_count pr n is qs h.1)

-- ---- the system
goal_over : (n : ℤ) (pr : AgentProblem) (o : IsOver n pr) (fit : IsFit pr) (N : ℕ) → N ≡ coordinates (game n pr) + length (base_slots (game n pr)) → (l : Option LeaderPart) → pr.leader ≡ l → (q : Option Affine) → IsGoalMade pr N l q → IsObjectiveOver n (game n pr) q (game_leader n (left_of pr) l)
goal_over n pr o fit N e None is None h = tt
goal_over n pr o fit N e None is (Some q) h = absurd h
goal_over n pr o fit N e (Some l) is None h = absurd h
goal_over n pr o fit N e (Some l) is (Some q) h =
    subst (λ (m : Option LeaderPart). IsMultipleOver n (game n pr) q (leader_row m)) is (item_multiple n pr o fit N Goal q e tt h)
  where
    leader_row : Option LeaderPart → GameRow
    leader_row m = lin_row n (left_of pr) (leader_goal m)

pub is_kkt : (pr : AgentProblem) (xs : List Extra) (s : RowSystem) → IsFit pr → IsLayout pr xs → length (items pr) ≤ 512 → s.base ≡ length pr.variables + length xs → s.kinds ≡ asked_kinds (asked pr) → s.pairs ≡ asked_pairs 0 (asked pr) → AreMadeOf pr s.base (items pr) s.quantities → IsGoalMade pr s.base pr.leader s.objective → IsKkt pr s
is_kkt pr xs s fit h l base kinds pairs rows goal = record {
  fits = fits pr xs fit h l;
  over = λ n o. record {
    base = same n;
    quantities = subst (λ (rs : List GameRow). AreMultiplesOver n (game n pr) s.quantities rs) (sym (ap rows_of (asked_meets n pr fit.functions) ∙ rows_meet n pr (asked pr))) (items_multiples n pr o fit s.base (items pr) s.quantities (same n) (all_in pr fit) rows);
    kinds = kinds ∙ sym (ap kinds_of (asked_meets n pr fit.functions) ∙ kinds_meet n pr (asked pr));
    pairs = pairs ∙ sym (ap (pairs_of 0) (asked_meets n pr fit.functions) ∙ pairs_meet n pr 0 (asked pr));
    objective = goal_over n pr o fit s.base (same n) pr.leader refl s.objective goal;
  };
  quantities = rows;
  objective = goal;
}
  where
    same : (n : ℤ) → s.base ≡ coordinates (game n pr) + length (base_slots (game n pr))
    same n = base ∙ (base_is pr xs h ∙ ap (λ bs. coordinates (shape pr) + length bs) (sym (base_same n pr)))

-- ---- wide quantities
take_before : {X : Type 0} (xs ys : List X) (k : ℕ) → k ≤ length xs → take k (xs ++ ys) ≡ take k xs
take_before xs ys zero h = refl
take_before [] ys (suc k) h = absurd (omega (arith, h))
take_before (x ∷ xs) ys (suc k) h = ap (λ l. x ∷ l) (take_before xs ys k (omega (arith, h)))

pub wide_item : (pr : AgentProblem) (xs : List Extra) (k : ℕ) → IsLayout pr xs → IsFirstWide pr (length pr.variables + length xs) (items pr) k → IsFirstWide pr (base_count pr) (numbered pr) k
wide_item pr xs k h f = subst (λ n. IsFirstWide pr n (numbered pr) k) (base_is pr xs h) (record {
  at = f.at;
  number = f.number;
  within = let e = length-append (items pr) (goal_items pr.leader) in let l = f.within in omega (arith, e, l);
  rows = f.rows;
  before = subst (λ (is : List Item). AreMadeOf pr (length pr.variables + length xs) is f.rows) (sym (take_before (items pr) (goal_items pr.leader) f.at (let l = f.within in omega (arith, l)))) f.before;
  wide = subst (λ (i : Item). IsWideItem pr (length pr.variables + length xs) i) (sym (get_or_append_left (items pr) (goal_items pr.leader) Goal f.at f.within)) f.wide;
})

last_item : (pr : AgentProblem) (is : List Item) (l : Option LeaderPart) → HasLeader l → (get_or (is ++ goal_items l) (length is) Goal ≡ Goal) × (length is < length (is ++ goal_items l))
last_item pr [] None h = absurd h
last_item pr [] (Some l) h = (refl, let z : 0 < length (Goal ∷ []) = omega arith in z)
last_item pr (i ∷ is) l h = let r = last_item pr is l h in (r.0, let g = r.1 in omega (arith, g))

pub wide_goal : (pr : AgentProblem) (xs : List Extra) (k : ℕ) (qs : List Affine) → IsLayout pr xs → k ≡ length (items pr) + 1 → HasLeader pr.leader → AreMadeOf pr (length pr.variables + length xs) (items pr) qs → IsWideItem pr (length pr.variables + length xs) Goal → IsFirstWide pr (base_count pr) (numbered pr) k
wide_goal pr xs k qs h e lead rows g = subst (λ n. IsFirstWide pr n (numbered pr) k) (base_is pr xs h) (record {
  at = length (items pr);
  number = e;
  within = (last_item pr (items pr) pr.leader lead).1;
  rows = qs;
  before = subst (λ (is : List Item). AreMadeOf pr (length pr.variables + length xs) is qs) (sym (take_before (items pr) (goal_items pr.leader) (length (items pr)) (omega arith) ∙ take_all (length (items pr)) (items pr) (omega arith))) rows;
  wide = subst (λ (i : Item). IsWideItem pr (length pr.variables + length xs) i) (sym (last_item pr (items pr) pr.leader lead).0) g;
})

-- ---- outcomes, where n is the count of base variables and these are the items
module _ (pr : AgentProblem) (xs : List Extra) (n : ℕ) (is : List Item) (fit : IsFit pr) (h : IsLayout pr xs) (base : n ≡ length pr.variables + length xs) (items_are : is ≡ items pr) (few : length is ≤ 512) where
  few_items : length (items pr) ≤ 512
  few_items = subst (λ (l : List Item). length l ≤ 512) items_are few

  first_of : (k : ℕ) → IsFirstWide pr n is k → IsFirstWide pr (base_count pr) (numbered pr) k
  first_of k f = wide_item pr xs k h (subst (λ (l : List Item). IsFirstWide pr (length pr.variables + length xs) l k) items_are (subst (λ m. IsFirstWide pr m is k) base f))

  pub quantities_fault : (e : KktFault) → RowsGive pr n is (Err e) → KktGives pr (Err e)
  quantities_fault TooLarge f = absurd f
  quantities_fault (WideRow k) f = (fits pr xs fit h few_items, first_of k f)
  quantities_fault NoMemory f = tt

  made_here : (qs : List Affine) → AreRows pr n is qs → AreMadeOf pr (length pr.variables + length xs) (items pr) qs
  made_here qs f = subst (λ (l : List Item). AreMadeOf pr (length pr.variables + length xs) l qs) items_are (subst (λ m. AreMadeOf pr m is qs) base f.made)

  pub objective_fault : (qs : List Affine) (number : ℕ) (e : KktFault) → AreRows pr n is qs → number ≡ length is + 1 → ObjectiveGives pr n pr.leader number (Err e) → KktGives pr (Err e)
  objective_fault qs number TooLarge r m f = absurd f
  objective_fault qs number (WideRow k) r m f = (
    fits pr xs fit h few_items,
    wide_goal pr xs k qs h (f.0 ∙ (m ∙ ap (λ (l : List Item). length l + 1) items_are)) f.1 (made_here qs r) (subst (λ m. IsWideItem pr m Goal) base f.2),
  )
  objective_fault qs number NoMemory r m f = tt

  pub sound : (qs : List Affine) (kinds : List Kind) (pairs : List (ℕ × ℕ)) (objective : Option Affine) → AreRows pr n is qs → kinds ≡ asked_kinds (asked pr) → pairs ≡ asked_pairs 0 (asked pr) → IsObjectiveRow pr n pr.leader objective → IsSystem n qs kinds pairs objective
  sound qs kinds pairs objective r k p o =
      system_sound pr n qs kinds pairs objective (let f = h.few in omega (arith, f, base)) few_items (made_count pr n is qs r.made ∙ ap length items_are) r.each k p o.1

  pub kkt : (s : RowSystem) → s.base ≡ n → AreRows pr n is s.quantities → s.kinds ≡ asked_kinds (asked pr) → s.pairs ≡ asked_pairs 0 (asked pr) → IsObjectiveRow pr n pr.leader s.objective → IsKkt pr s
  kkt s b r k p o =
      is_kkt pr xs s fit h few_items (b ∙ base) k p
      (subst (λ m. AreMadeOf pr m (items pr) s.quantities) (sym (b ∙ base)) (made_here s.quantities r))
      (subst (λ m. IsGoalMade pr m pr.leader s.objective) (sym b) o.0)
