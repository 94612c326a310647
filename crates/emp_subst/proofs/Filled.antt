-- The point of the file for values of the variables that are left.
use Rattle.std.proofs.Common.{◌≡◌, ◌⊎◌, inl, inr, ℕ, zero, suc, ◌+◌, ◌<◌, ◌≤◌, pos, negsuc, neg_ℤ, ◌*ℤ◌, ◌<ℤ◌, Bool, true, false, ◌&&◌, cond, List, [], ◌∷◌, length, Option, Some, None, arith, refl, sym, ap, subst, ◌∙◌}
use Rattle.std.specs.Prelude.{slice_get, slice_index_or, Result, Ok, Err}
use Rattle.std.proofs.lemmas.Bool.{eq-eqb, cases_lt, false≢true, false_from_ne_true}
use Rattle.std.proofs.lemmas.Option.{slice_get_within, slice_get-get_or}
use Rattle.std.proofs.lemmas.List.{length-map}
use Rattle.emp_algebra.proofs.Ring.{var, lit, neg, ◌⊗◌, by_ring}
use Rattle.emp_num.specs.Ratio.{Ratio, negated as opposite, SameRatio}
use Rattle.emp_num.specs.Point.{Point, coordinate, StandsFor}
use Rattle.emp_num.specs.Whole.{whole}
use Rattle.emp_num.specs.declared.frac.Frac.{Frac}
use Rattle.emp_num.proofs.Standing.{stands_at}
use Rattle.emp_ast.specs.declared.model.Equation.{Equation}
use Rattle.emp_ast.specs.declared.model.Variable.{Variable}
use Rattle.emp_ast.specs.declared.model.Sense.{Sense}
use Rattle.emp_ast.specs.declared.model.Sense.TheVariants.{Min, Max}
use Rattle.emp_ast.specs.declared.model.Model.{Model}
use Rattle.emp_ast.specs.declared.annot.Block.{Block}
use Rattle.emp_ast.specs.declared.annot.Block.TheVariants.{Agent, Vi}
use Rattle.emp_ast.specs.declared.annot.Annot.{Annot}
use Rattle.emp_ast.specs.Meets.{MeetsEquation}
use Rattle.emp_ast.specs.Parties.{Party, leader, block, objective, defines, defines_by, is_defined, is_defined_of, EachDefinition}
use Rattle.emp_ast.specs.Rivals.{IsGivenFor}
use Rattle.emp_form.specs.Form.{Form, form_value, negated_form, IsLinear}
use Rattle.emp_form.proofs.FormLaws.{entry_negated}
use Rattle.emp_form.specs.Calls.{Formula, given, Gives}
use Rattle.emp_poly.specs.Quads.{as_ratio, quad_value, HasForm}
use Rattle.emp_poly.specs.Written.{entry, linear_from, written_value}
use Rattle.emp_poly.specs.declared.quad.Quad.{Quad}
use Rattle.emp_poly.specs.declared.quad.Lin.{Lin}
use Rattle.emp_poly.proofs.QuadForms.{entry_quad, quad_is_form, ratio_trans, form_bottom}
use Rattle.emp_agents.specs.Given.{given_form, HasTerm, HasPolynomials}
use Rattle.emp_agents.proofs.Given.{given_is_form}
use Rattle.emp_problem.specs.declared.problem.Purpose.{Purpose}
use Rattle.emp_problem.specs.declared.problem.Purpose.TheVariants.{Goal, Flow}
use Rattle.emp_problem.specs.declared.problem.BlockPart.{BlockPart}
use Rattle.emp_problem.specs.declared.problem.LeaderPart.{LeaderPart}
use Rattle.emp_problem.specs.declared.problem.AgentProblem.{AgentProblem}
use Rattle.emp_problem.specs.Left.{left_from, left, signed, signed_for, goal_form}
use Rattle.emp_problem.specs.ProblemOf.{left_variable, IsPurposeFor, LeadsFor, IsProblemOf}
use Rattle.emp_problem.specs.Class.{IsClassFile}
use Rattle.emp_subst.specs.declared.fault.FillFault.{FillFault}
use Rattle.emp_subst.specs.declared.fault.FillFault.TheVariants.{Wide, NoMemory}
use Rattle.emp_subst.specs.Stages.{is_solved_by}
use Rattle.emp_subst.specs.Fill.{spread_from, spread, IsFirstWide, IsFilling, FillGives}
use Rattle.emp_subst.specs.Filling.{IsTurned, TurnsFold, PartyFold, IsValue, AreValues, ValuesGive}
use Rattle.emp_subst.proofs.Owners.{objective_of, objective_fits, leader_fits}
use Rattle.emp_subst.proofs.Turning.{part_count, block_at, has_goal, fold_narrow}
use Rattle.emp_subst.proofs.Absent.{none_goal, linear_named, first_named, second_named, written_near}
use Rattle.emp_subst.proofs.Values.{fold_means}
use Rattle.emp_subst.proofs.Defined.{solved_of}

-- ---- the values by all variables
pub spread_count : (m : Model) (a : Annot) (values : List Frac) (at next : ℕ) (xs : List Variable) → length (spread_from m a values at next xs) ≡ length xs
spread_count m a values at next [] = refl
spread_count m a values at next (x ∷ xs) = go (is_defined m a at) (spread_count m a values (at + 1) next xs) (spread_count m a values (at + 1) (next + 1) xs)
  where
    go : (b : Bool) → length (spread_from m a values (at + 1) next xs) ≡ length xs → length (spread_from m a values (at + 1) (next + 1) xs) ≡ length xs → length (cond b (whole 0 ∷ spread_from m a values (at + 1) next xs) (entry values next ∷ spread_from m a values (at + 1) (next + 1) xs)) ≡ suc (length xs)
    go true same later = ap suc same
    go false same later = ap suc later

-- the i-th variable that is left, by its distance from the first
record LeftAt (m : Model) (a : Annot) (values : List Frac) (at next : ℕ) (xs : List Variable) (i : ℕ) : Type 0 where
  pub offset : ℕ
  pub is : slice_index_or (left_from m a at xs) i 0 ≡ at + offset
  pub inside : offset < length xs
  pub free : is_defined m a (at + offset) ≡ false
  pub value : entry (spread_from m a values at next xs) offset ≡ entry values (next + i)

left_at : (m : Model) (a : Annot) (values : List Frac) (at next : ℕ) (xs : List Variable) (i : ℕ) → i < length (left_from m a at xs) → LeftAt m a values at next xs i
left_at m a values at next [] i l = absurd (omega arith)
left_at m a values at next (x ∷ xs) i l = go (is_defined m a at) refl i l (left_at m a values (at + 1) next xs) (left_at m a values (at + 1) (next + 1) xs)
  where
    moved : (b : Bool) → is_defined m a at ≡ b → (k j : ℕ) → slice_index_or (cond b (left_from m a (at + 1) xs) (at ∷ left_from m a (at + 1) xs)) k 0 ≡ at + j → j < suc (length xs) → is_defined m a (at + j) ≡ false → entry (cond b (whole 0 ∷ spread_from m a values (at + 1) next xs) (entry values next ∷ spread_from m a values (at + 1) (next + 1) xs)) j ≡ entry values (next + k) → LeftAt m a values at next (x ∷ xs) k
    moved b is k j h inside free value = record {
      offset = j;
      is = ap (λ c. slice_index_or (cond c (left_from m a (at + 1) xs) (at ∷ left_from m a (at + 1) xs)) k 0) is ∙ h;
      inside = inside;
      free = free;
      value = ap (λ c. entry (cond c (whole 0 ∷ spread_from m a values (at + 1) next xs) (entry values next ∷ spread_from m a values (at + 1) (next + 1) xs)) j) is ∙ value;
    }

    go : (b : Bool) → is_defined m a at ≡ b → (k : ℕ) → k < length (cond b (left_from m a (at + 1) xs) (at ∷ left_from m a (at + 1) xs)) → ((i : ℕ) → i < length (left_from m a (at + 1) xs) → LeftAt m a values (at + 1) next xs i) → ((i : ℕ) → i < length (left_from m a (at + 1) xs) → LeftAt m a values (at + 1) (next + 1) xs i) → LeftAt m a values at next (x ∷ xs) k
    go true is k l same later =
        let h = same k l in
        let e : at + 1 + h.offset ≡ at + suc h.offset = omega arith in
        moved true is k (suc h.offset) (h.is ∙ e) (let n = h.inside in omega arith) (subst (λ n. is_defined m a n ≡ false) e h.free) h.value
    go false is zero l same later =
        let e : at ≡ at + 0 = omega arith in
        let n : next ≡ next + 0 = omega arith in
        moved false is 0 0 e (omega arith) (subst (λ n. is_defined m a n ≡ false) e is) (ap (entry values) n)
    go false is (suc k) l same later =
        let h = later k (omega arith) in
        let e : at + 1 + h.offset ≡ at + suc h.offset = omega arith in
        let n : next + 1 + k ≡ next + suc k = omega arith in
        moved false is (suc k) (suc h.offset) (h.is ∙ e) (let n = h.inside in omega arith) (subst (λ n. is_defined m a n ≡ false) e h.free) (h.value ∙ ap (entry values) n)

pub record LeftEntry (m : Model) (a : Annot) (values : List Frac) (i : ℕ) : Type 0 where
  pub inside : slice_index_or (left m a) i 0 < length m.variables
  pub free : is_defined m a (slice_index_or (left m a) i 0) ≡ false
  pub value : entry (spread m a values) (slice_index_or (left m a) i 0) ≡ entry values i

pub left_entry : (m : Model) (a : Annot) (values : List Frac) (i : ℕ) → i < length (left m a) → LeftEntry m a values i
left_entry m a values i l =
    let h = left_at m a values 0 0 m.variables i l in
    let e : 0 + h.offset ≡ h.offset = omega arith in
    let n : 0 + i ≡ i = omega arith in
    let is : slice_index_or (left m a) i 0 ≡ h.offset = h.is ∙ e in
    record {
      inside = subst (λ k. k < length m.variables) (sym is) h.inside;
      free = subst (λ k. is_defined m a k ≡ false) (sym h.is) h.free;
      value = ap (entry (spread m a values)) is ∙ (h.value ∙ ap (entry values) n);
    }

-- ---- entries of the point
past : (xs : List Frac) (k : ℕ) → length xs ≤ k → entry xs k ≡ whole 0
past [] k l = refl
past (x ∷ xs) zero l = absurd (omega arith)
past (x ∷ xs) (suc k) l = past xs k (omega arith)

value_at : (m : Model) (a : Annot) (pr : AgentProblem) (xs list : List Frac) (v : ℕ) → AreValues m a pr xs list → v < length m.variables → IsValue m a pr xs v (entry list v)
value_at m a pr xs list v h l = h.each v (entry list v) (slice_get-get_or list v (whole 0) (let c = h.count in omega arith))

free_entry : (m : Model) (a : Annot) (pr : AgentProblem) (values list : List Frac) (v : ℕ) → AreValues m a pr (spread m a values) list → is_defined m a v ≡ false → entry (spread m a values) v ≡ entry list v
free_entry m a pr values list v h free = go (cases_lt v (length m.variables))
  where
    go : (v < length m.variables) ⊎ (length m.variables ≤ v) → entry (spread m a values) v ≡ entry list v
    go (inl l) = sym ((value_at m a pr (spread m a values) list v h l).left free)
    go (inr l) =
        let n = spread_count m a values 0 0 m.variables in
        let c = h.count in
        past (spread m a values) v (omega arith) ∙ sym (past list v (omega arith))

-- ---- a party with a definition
-- its polynomial
record PartyGoal (m : Model) (a : Annot) (pr : AgentProblem) (xs : List Frac) (k : Party) (w : ℕ) : Type 0 where
  pub goal : Quad
  pub form : HasForm goal (goal_form m a k)
  pub formula : Formula
  pub fold : PartyFold m a pr xs w k formula
  pub is : formula ≡ written_value goal xs

block_goal : (m : Model) (a : Annot) (pr : AgentProblem) (xs : List Frac) (k w : ℕ) (s : Sense) → IsProblemOf m a pr → objective m a (block k) ≡ Some (s, w) → is_defined_of m a (block k) w ≡ true → PartyGoal m a pr xs (block k) w
block_goal m a pr xs k w s problem is defined = go (slice_get pr.blocks k) refl
  where
    inside : k < length pr.blocks
    inside = let o = objective_of m a k w s is in let c = part_count m a pr problem in let l = slice_get_within a.blocks k o.block o.is in omega (arith, c, l)

    forms : (b : Block) (p : Purpose) (q : Quad) → p ≡ Goal q → IsPurposeFor m a k b p → HasForm q (goal_form m a (block k))
    forms (Agent t v vars equs) (Goal r) q e h = let same : r ≡ q = cc in subst (λ z. HasForm z (goal_form m a (block k))) same h
    forms (Agent t v vars equs) (Flow ls) q e h = absurd h
    forms (Vi zeros pairs equs) (Goal r) q e h = absurd h
    forms (Vi zeros pairs equs) (Flow ls) q e h = cc

    go : (o : Option BlockPart) → slice_get pr.blocks k ≡ o → PartyGoal m a pr xs (block k) w
    go None at = absurd (none_there pr.blocks k at inside)
      where
        none_there : {X : Type 0} (xs : List X) (k : ℕ) → slice_get xs k ≡ None → k < length xs → ⊥
        none_there [] k e l = omega arith
        none_there (x ∷ xs) zero e l = cc
        none_there (x ∷ xs) (suc k) e l = none_there xs k e (omega arith)
    go (Some p) at =
        let g = has_goal m a pr k w s p problem is at in
        let o = objective_of m a k w s is in
        record {
          goal = g.0;
          form = forms o.block p.purpose g.0 g.1 (block_at m a pr k o.block p problem o.is at).purpose;
          formula = written_value g.0 xs;
          fold = (record { number = k; defines = defined; part = p; is = at; goal = g.0; purpose = g.1; fold = refl }, refl);
          is = refl;
        }

abbrev lin_quad : Lin → Quad
lin_quad l = record { constant = l.constant; linear = l.linear; square = []; linear_kept = l.linear_kept; square_kept = refl }

signed_linear : (s : Sense) (f : Form) → IsLinear f → IsLinear (signed s f)
signed_linear Min f h = h
signed_linear Max f h = record { square = λ i j l. ap neg_ℤ (h.square i j l) }

signed_for_linear : (o : Option (Sense × ℕ)) (f : Form) → IsLinear f → IsLinear (signed_for o f)
signed_for_linear (Some w) f h = signed_linear w.0 f h
signed_for_linear None f h = h

leader_goal : (m : Model) (a : Annot) (pr : AgentProblem) (xs : List Frac) (w : ℕ) → IsClassFile m a → IsProblemOf m a pr → a.bilevel ≡ true → is_defined_of m a leader w ≡ true → PartyGoal m a pr xs leader w
leader_goal m a pr xs w class problem b defined = go pr.leader refl (subst (λ x. LeadsFor m a x pr.leader) b problem.leads)
  where
    go : (o : Option LeaderPart) → pr.leader ≡ o → LeadsFor m a true o → PartyGoal m a pr xs leader w
    go None at h = absurd h
    go (Some p) at h =
        let linear : IsLinear (goal_form m a leader) = signed_for_linear (objective m a leader) (given_form m a leader) (class.leads b) in
        record {
          goal = lin_quad p.goal;
          form = record { den = h.goal.den; constant = h.goal.constant; linear = h.goal.linear; square = λ i j l. by_ring ((goal_form m a leader).den ∷ []) (lit (pos 0) ⊗ var 0) (lit (pos 0) ⊗ lit (pos 1)) refl ∙ ap (λ z. z *ℤ pos 1) (sym (linear.square i j l)) };
          formula = linear_from (given p.goal.constant) p.goal.linear xs;
          fold = record { defines = defined; part = p; is = at; fold = refl };
          is = refl;
        }

-- ---- the value of a defined objective is what its definition gives
same_back : (x y : Ratio) → SameRatio x y → SameRatio y x
same_back x y h = sym h

turned_same : (p : Point) (s : Sense) (x r : Frac) (f : Form) → pos 0 <ℤ f.den → IsTurned s x r → SameRatio (as_ratio x) (form_value p (signed s f)) → SameRatio (as_ratio r) (form_value p f)
turned_same p Min x r f den t h =
    ap (λ z. z *ℤ (form_value p f).bottom) (t.num ∙ by_ring (x.num ∷ []) (lit (pos 1) ⊗ var 0) (var 0) refl) ∙ (h ∙ ap (λ z. (form_value p f).top *ℤ z) (sym t.den))
turned_same p Max x r f den t h =
    let v = form_value p f in
    let minus : SameRatio (opposite v) (form_value p (negated_form f)) = (entry_negated p v f (record { bottom = form_bottom p f den; den = den; same = refl })).same in
    let both : SameRatio (as_ratio x) (opposite v) = ratio_trans (as_ratio x) (form_value p (negated_form f)) (opposite v) (form_bottom p (negated_form f) den) h (same_back (opposite v) (form_value p (negated_form f)) minus) in
    ap (λ z. z *ℤ v.bottom) t.num
    ∙ (by_ring (x.num ∷ v.bottom ∷ []) (lit (negsuc 0) ⊗ var 0 ⊗ var 1) (neg (var 0 ⊗ var 1)) refl
    ∙ (ap neg_ℤ both ∙ (by_ring (v.top ∷ x.den ∷ []) (neg (neg (var 0) ⊗ var 1)) (var 0 ⊗ var 1) refl ∙ ap (λ z. v.top *ℤ z) (sym t.den))))

party_meets : (m : Model) (a : Annot) (pr : AgentProblem) (values list : List Frac) (p : Point) (k : Party) (s : Sense) (w e : ℕ) (q : Equation) → IsClassFile m a → AreValues m a pr (spread m a values) list → StandsFor list p → objective m a k ≡ Some (s, w) → is_defined_of m a k w ≡ true → w < length m.variables → PartyGoal m a pr (spread m a values) k w → slice_get m.equations e ≡ Some q → defines m a k e ≡ true → MeetsEquation p q
party_meets m a pr values list p k s w e q class are stands is defined inside g at d =
    (subst (λ o. IsGivenFor m a k o p (coordinate p w)) is (((given_is_form m a k (s, w) is polynomials).value p (coordinate p w)).1 (p.positive, value))).defined e q at d p refl (λ v n. refl)
  where
    polynomials : HasPolynomials m a k
    polynomials e q at d = class.expanded e q at

    xs : List Frac
    xs = spread m a values

    r : Frac
    r = entry list w

    turns : TurnsFold s g.formula (entry list w)
    turns = (value_at m a pr (spread m a values) list w are inside).fold k s g.formula (is, defined) g.fold

    named : (u : ℕ) → (HasTerm u (pos 0) (goal_form m a k) → ⊥) → entry (spread m a values) u ≡ entry list u
    named u n = free_entry m a pr values list u are (false_from_ne_true (is_defined m a u) (λ h. n (none_goal m a k (s, w) e q u is at d h)))

    near : written_value g.goal (spread m a values) ≡ written_value g.goal list
    near =
        written_near g.goal (spread m a values) list (λ u some. named u (λ n. linear_named g.goal (goal_form m a k) u g.form n some))
        (λ u v l some. (named u (λ n. first_named g.goal (goal_form m a k) u v g.form n l some), named v (λ n. second_named g.goal (goal_form m a k) u v g.form n l some)))

    number : SameRatio (as_ratio turns.number) (quad_value p g.goal)
    number = fold_means g.goal list p stands turns.number (subst (λ f. Gives f turns.number) (g.is ∙ near) turns.gives)

    quad_bottom : pos 0 <ℤ (quad_value p g.goal).bottom
    quad_bottom = (entry_quad p g.goal).bottom

    folded : SameRatio (as_ratio turns.number) (form_value p (signed s (given_form m a k)))
    folded =
        subst (λ o. SameRatio (as_ratio turns.number) (form_value p (signed_for o (given_form m a k)))) is
        (ratio_trans (as_ratio turns.number) (quad_value p g.goal) (form_value p (goal_form m a k)) quad_bottom number (quad_is_form p g.goal (goal_form m a k) g.form))

    den : pos 0 <ℤ (given_form m a k).den
    den = (given_is_form m a k (s, w) is polynomials).den

    own : SameRatio (coordinate p w) (as_ratio (entry list w))
    own = sym (stands_at list p stands w (whole 0) (let c = are.count in omega arith))

    value : SameRatio (coordinate p w) (form_value p (given_form m a k))
    value = ratio_trans (coordinate p w) (as_ratio (entry list w)) (form_value p (given_form m a k)) (entry list w).positive own (turned_same p s turns.number (entry list w) (given_form m a k) den turns.turned folded)

defined_here : (m : Model) (a : Annot) (k : Party) (w : Sense × ℕ) (e : ℕ) → objective m a k ≡ Some w → defines m a k e ≡ true → is_defined_of m a k w.1 ≡ true
defined_here m a k w e is d =
    sym (solved_of m a k (Some (record { at = e })) w.1 d) ∙ (ap (λ o. is_solved_by (Some (record { at = e })) o w.1) is ∙ ap (λ b. b && true) (eq-eqb w.1 w.1 refl))

-- ---- the whole point
pub filling : (m : Model) (a : Annot) (pr : AgentProblem) (values list : List Frac) → IsClassFile m a → IsProblemOf m a pr → length values ≡ length pr.variables → AreValues m a pr (spread m a values) list → IsFilling m a pr values list
filling m a pr values list class problem count are = record {
  count = are.count;
  left = entries;
  points = λ p stands. record { fits = stands.count ∙ are.count; definitions = record { blocks = λ k l. blocks p stands k l (objective m a (block k)) refl; leads = λ b. leads p stands b (objective m a leader) refl }; left = at_point p stands };
  narrow = λ v f l fold wide. fold_narrow m a pr (spread m a values) v (entry list v) f (value_at m a pr (spread m a values) list v are l) fold wide;
}
  where
    within : (i : ℕ) → i < length values → i < length (left m a)
    within i l = let n = ap length problem.variables ∙ length-map (left m a) (left_variable m) in omega (arith, n, count, l)

    entries : (i : ℕ) → i < length values → entry list (slice_index_or (left m a) i 0) ≡ entry values i
    entries i l = let h = left_entry m a values i (within i l) in sym (free_entry m a pr values list (slice_index_or (left m a) i 0) are h.free) ∙ h.value

    at_point : (p : Point) → StandsFor list p → (i : ℕ) → i < length values → SameRatio (coordinate p (slice_index_or (left m a) i 0)) (as_ratio (entry values i))
    at_point p stands i l =
        let h = left_entry m a values i (within i l) in
        let c = are.count in
        let n = h.inside in
        subst (λ (x : Frac). SameRatio (coordinate p (slice_index_or (left m a) i 0)) (as_ratio x)) (entries i l) (sym (stands_at list p stands (slice_index_or (left m a) i 0) (whole 0) (omega arith)))

    none_defines : (k : Party) (e : ℕ) → objective m a k ≡ None → defines m a k e ≡ true → ⊥
    none_defines k e is d = false≢true (subst (λ o. defines_by m a k e o ≡ true) is d)

    blocks : (p : Point) → StandsFor list p → (k : ℕ) → k < length a.blocks → (o : Option (Sense × ℕ)) → objective m a (block k) ≡ o → EachDefinition m a (block k) (λ e q. MeetsEquation p q)
    blocks p stands k l None is e q at d = absurd (none_defines (block k) e is d)
    blocks p stands k l (Some w) is e q at d =
        let defined = defined_here m a (block k) w e is d in
        party_meets m a pr values list p (block k) w.0 w.1 e q class are stands is defined (objective_fits m a k w.1 w.0 class.fits is) (block_goal m a pr (spread m a values) k w.1 w.0 problem is defined) at d

    leads : (p : Point) → StandsFor list p → a.bilevel ≡ true → (o : Option (Sense × ℕ)) → objective m a leader ≡ o → EachDefinition m a leader (λ e q. MeetsEquation p q)
    leads p stands b None is e q at d = absurd (none_defines leader e is d)
    leads p stands b (Some w) is e q at d =
        let defined = defined_here m a leader w e is d in
        party_meets m a pr values list p leader w.0 w.1 e q class are stands is defined (leader_fits m w.1 w.0 class.goal is) (leader_goal m a pr (spread m a values) w.1 class problem b defined) at d

pub fills : (m : Model) (a : Annot) (pr : AgentProblem) (values xs : List Frac) (r : Result (List Frac) FillFault) → IsClassFile m a → IsProblemOf m a pr → length values ≡ length pr.variables → xs ≡ spread m a values → ValuesGive m a pr xs r → FillGives m a pr values r
fills m a pr values xs (Ok list) class problem count is h = filling m a pr values list class problem count (subst (λ ys. AreValues m a pr ys list) is h)
fills m a pr values xs (Err (Wide w)) class problem count is h = subst (λ ys. IsFirstWide m a pr ys w.at) is h
fills m a pr values xs (Err NoMemory) class problem count is h = tt
