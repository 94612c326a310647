-- The polynomials of defined objectives name variables that are left, and no other.
use Rattle.std.proofs.Common.{◌≡◌, ◌≢◌, ◌⊎◌, inl, inr, ℕ, zero, suc, ◌+◌, ◌≤◌, ℤ, pos, neg_ℤ, ◌*ℤ◌, ◌<ℤ◌, Bool, true, false, ◌&&◌, not, cond, nat_eq, List, [], ◌∷◌, length, Option, Some, None, arith, refl, sym, ap, ap₂, subst, ◌∙◌}
use Rattle.std.specs.Prelude.{slice_get}
use Rattle.std.specs.List.{list_any}
use Rattle.std.proofs.lemmas.Bool.{eq-eqb, eqb-true, ne_eqb, and_parts, or_cases, cases_eq, false≢true}
use Rattle.std.proofs.lemmas.List.Sums.{length-filter}
use Rattle.std.proofs.lemmas.Option.{same_Some}
use lib.IntN.{zero-*ℤ, *ℤ-zero}
use Rattle.emp_algebra.proofs.Order.{cancel_right}
use Rattle.emp_num.specs.FracSpec.{IsQuotient}
use Rattle.emp_num.specs.declared.frac.Frac.{Frac}
use Rattle.emp_ast.specs.declared.tree.VarId.{VarId}
use Rattle.emp_ast.specs.declared.tree.EquId.{EquId}
use Rattle.emp_ast.specs.declared.model.Equation.{Equation}
use Rattle.emp_ast.specs.declared.model.Sense.{Sense}
use Rattle.emp_ast.specs.declared.model.Sense.TheVariants.{Min, Max}
use Rattle.emp_ast.specs.declared.model.Model.{Model}
use Rattle.emp_ast.specs.declared.annot.Block.{Block}
use Rattle.emp_ast.specs.declared.annot.Annot.{Annot}
use Rattle.emp_ast.specs.Occurrence.{leaves, equation_leaves, occurrences}
use Rattle.emp_ast.specs.Parties.{Party, leader, block, objective, names_equation, block_equations, equations, equations_by, some_block_has, holders, has_alone, ties, defines, is_defined, is_defined_of, is_defined_by, some_block_defines}
use Rattle.emp_form.specs.Form.{Form}
use Rattle.emp_form.specs.Expansion.{form}
use Rattle.emp_form.specs.Calls.{Formula, given, added, multiplied}
use Rattle.emp_poly.specs.Terms.{is_not_zero, is_linear_from, is_square_from}
use Rattle.emp_poly.specs.Quads.{linear_at, square_at, HasForm}
use Rattle.emp_poly.specs.Written.{entry, linear_term, linear_from, square_term, square_from, written_value}
use Rattle.emp_poly.specs.declared.quad.Quad.{Quad}
use Rattle.emp_poly.proofs.QuadForms.{LinearFacts, linear_facts, linear_below, SquareFacts, square_facts, square_below, pair_apart}
use Rattle.emp_owner.proofs.Defining.{leader_named, can_tie, tie_leaves}
use Rattle.emp_agents.specs.Given.{difference, HasTerm, times_form, without, solved_form, given_form, StandsOnce, leaf_sign}
use Rattle.emp_agents.proofs.Given.{absent_stands_nowhere, objective_stands_once, given_form_is}
use Rattle.emp_problem.specs.Left.{signed, signed_for, goal_form}
use Rattle.emp_subst.proofs.Defined.{defines_parts}
use Rattle.emp_subst.proofs.Owners.{count_two, any_at}
use Rattle.emp_subst.proofs.Turning.{defined_objective}

-- ---- one party alone has the equation
block_has_it : (m : Model) (a : Annot) (k e : ℕ) → has_alone m a (block k) e ≡ true → (b : Block) × (slice_get a.blocks k ≡ Some b) × (names_equation (block_equations a b) e ≡ true)
block_has_it m a k e h = go (slice_get a.blocks k) refl (and_parts (names_equation (equations m a (block k)) e) (nat_eq (holders a e) 1) h).0
  where
    go : (o : Option Block) → slice_get a.blocks k ≡ o → names_equation (equations_by a o) e ≡ true → (b : Block) × (slice_get a.blocks k ≡ Some b) × (names_equation (block_equations a b) e ≡ true)
    go None at n = absurd (false≢true n)
    go (Some b) at n = (b, at, n)

not_both : (m : Model) (a : Annot) (k e : ℕ) → has_alone m a leader e ≡ true → has_alone m a (block k) e ≡ true → ⊥
not_both m a k e h j =
    let b = block_has_it m a k e j in
    let has : some_block_has a e ≡ true = any_at (λ b. names_equation (block_equations a b) e) a.blocks k b.0 b.1 b.2 in
    let none = (and_parts (names_equation _ e) (not (some_block_has a e)) (sym (leader_named m a e) ∙ h)).1 in
    false≢true (ap not (sym has) ∙ none)

one_party : (m : Model) (a : Annot) (j k : Party) (e : ℕ) → has_alone m a j e ≡ true → has_alone m a k e ≡ true → j ≡ k
one_party m a leader leader e h l = refl
one_party m a leader (block k) e h l = absurd (not_both m a k e h l)
one_party m a (block j) leader e h l = absurd (not_both m a j e l h)
one_party m a (block j) (block k) e h l = go (cases_eq j k)
  where
    go : (j ≡ k) ⊎ (j ≢ k) → block j ≡ block k
    go (inl same) = ap block same
    go (inr other) =
        let b = block_has_it m a j e h in
        let c = block_has_it m a k e l in
        let one = eqb-true (holders a e) 1 (and_parts (names_equation (equations m a (block j)) e) (nat_eq (holders a e) 1) h).1 in
        let two = count_two (λ b. names_equation (block_equations a b) e) a.blocks j k b.0 c.0 b.1 c.1 b.2 c.2 other in
        let same = length-filter (λ b. names_equation (block_equations a b) e) a.blocks in
        absurd (omega (arith, one, two, same))

-- ---- leaves in two equations
leaves_in : (w : ℕ) (qs : List Equation) (e : ℕ) (c : Equation) → slice_get qs e ≡ Some c → equation_leaves w c ≤ occurrences w qs
leaves_in w [] e c at = cc
leaves_in w (q ∷ qs) zero c at = let same : q ≡ c = same_Some q c at in subst (λ d. equation_leaves w d ≤ equation_leaves w q + occurrences w qs) same (omega arith)
leaves_in w (q ∷ qs) (suc e) c at = let l = leaves_in w qs e c at in omega arith

leaves_apart : (w : ℕ) (qs : List Equation) (e f : ℕ) (c d : Equation) → slice_get qs e ≡ Some c → slice_get qs f ≡ Some d → e ≢ f → equation_leaves w c + equation_leaves w d ≤ occurrences w qs
leaves_apart w [] e f c d at there n = cc
leaves_apart w (q ∷ qs) zero zero c d at there n = absurd (n refl)
leaves_apart w (q ∷ qs) zero (suc f) c d at there n =
    let same : q ≡ c = same_Some q c at in
    let l = leaves_in w qs f d there in
    subst (λ x. equation_leaves w x + equation_leaves w d ≤ equation_leaves w q + occurrences w qs) same (omega arith)
leaves_apart w (q ∷ qs) (suc e) zero c d at there n =
    let same : q ≡ d = same_Some q d there in
    let l = leaves_in w qs e c at in
    subst (λ x. equation_leaves w c + equation_leaves w x ≤ equation_leaves w q + occurrences w qs) same (omega arith)
leaves_apart w (q ∷ qs) (suc e) (suc f) c d at there n = let l = leaves_apart w qs e f c d at there (λ s. n (ap suc s)) in omega arith

-- ---- who defines a variable
pub record DefinedBy (m : Model) (a : Annot) (u : ℕ) : Type 0 where
  pub party : Party
  pub sense : Sense
  pub objective : objective m a party ≡ Some (sense, u)
  pub number : ℕ
  pub defines : defines m a party number ≡ true

any_some : (test : ℕ → Bool) (es : List EquId) → list_any (λ e. test e.at) es ≡ true → (e : ℕ) × (test e ≡ true)
any_some test [] h = absurd (false≢true h)
any_some test (e ∷ es) h = go (or_cases (test e.at) (list_any (λ e. test e.at) es) h) (any_some test es)
  where
    go : (test e.at ≡ true) ⊎ (list_any (λ e. test e.at) es ≡ true) → (list_any (λ e. test e.at) es ≡ true → (e : ℕ) × (test e ≡ true)) → (e : ℕ) × (test e ≡ true)
    go (inl here) rest = (e.at, here)
    go (inr later) rest = rest later

defined_of : (m : Model) (a : Annot) (p : Party) (u : ℕ) → is_defined_of m a p u ≡ true → DefinedBy m a u
defined_of m a p u h =
    let s = defined_objective m a p u h in
    let found = any_some (defines m a p) (equations m a p) (and_parts (nat_eq u u) (list_any (λ e. defines m a p e.at) (equations m a p)) (subst (λ o. is_defined_by m a p u o ≡ true) s.1 h)).1 in
    record { party = p; sense = s.0; objective = s.1; number = found.0; defines = found.1 }

some_defined : (m : Model) (a : Annot) (u n : ℕ) → some_block_defines m a u n ≡ true → DefinedBy m a u
some_defined m a u zero h = absurd (false≢true h)
some_defined m a u (suc n) h = go (or_cases (is_defined_of m a (block n) u) (some_block_defines m a u n) h) (some_defined m a u n)
  where
    go : (is_defined_of m a (block n) u ≡ true) ⊎ (some_block_defines m a u n ≡ true) → (some_block_defines m a u n ≡ true → DefinedBy m a u) → DefinedBy m a u
    go (inl here) rest = defined_of m a (block n) u here
    go (inr later) rest = rest later

pub defined_by : (m : Model) (a : Annot) (u : ℕ) → is_defined m a u ≡ true → DefinedBy m a u
defined_by m a u h = go (or_cases (some_block_defines m a u (length a.blocks)) (a.bilevel && is_defined_of m a leader u) h)
  where
    go : (some_block_defines m a u (length a.blocks) ≡ true) ⊎ ((a.bilevel && is_defined_of m a leader u) ≡ true) → DefinedBy m a u
    go (inl h) = some_defined m a u (length a.blocks) h
    go (inr h) = defined_of m a leader u (and_parts a.bilevel (is_defined_of m a leader u) h).1

-- ---- forms in which a variable does not stand
none_without : (u w : ℕ) (f : Form) → HasTerm u (pos 0) f → HasTerm u (pos 0) (without w f)
none_without u w f h = record { linear = go (nat_eq u w); first = h.first; second = h.second }
  where
    go : (b : Bool) → cond b (pos 0) (f.linear u) ≡ pos 0 *ℤ f.den
    go true = sym (zero-*ℤ f.den)
    go false = h.linear

none_linear : (u : ℕ) (f : Form) → HasTerm u (pos 0) f → f.linear u ≡ pos 0
none_linear u f h = h.linear ∙ zero-*ℤ f.den

none_times : (u : ℕ) (s : ℤ) (f : Form) → HasTerm u (pos 0) f → HasTerm u (pos 0) (times_form s f)
none_times u s f h = record {
  linear = ap (λ x. s *ℤ x) (none_linear u f h) ∙ (*ℤ-zero s ∙ sym (zero-*ℤ f.den));
  first = λ j. ap (λ x. s *ℤ x) (h.first j) ∙ *ℤ-zero s;
  second = λ i. ap (λ x. s *ℤ x) (h.second i) ∙ *ℤ-zero s;
}

none_signed : (u : ℕ) (s : Sense) (f : Form) → HasTerm u (pos 0) f → HasTerm u (pos 0) (signed s f)
none_signed u Min f h = h
none_signed u Max f h = record {
  linear = ap neg_ℤ (none_linear u f h) ∙ sym (zero-*ℤ f.den);
  first = λ j. ap neg_ℤ (h.first j);
  second = λ i. ap neg_ℤ (h.second i);
}

-- a defined objective stands in what no equation gives for a defined objective
none_solved : (m : Model) (a : Annot) (k : Party) (w : Sense × ℕ) (e : ℕ) (q : Equation) (u : ℕ) → objective m a k ≡ Some w → slice_get m.equations e ≡ Some q → defines m a k e ≡ true → DefinedBy m a u → HasTerm u (pos 0) (solved_form w.1 q)
none_solved m a k w e q u is at d by = go (cases_eq u w.1)
  where
    once : StandsOnce w.1 q
    once = objective_stands_once m a k w is e q at d

    go : (u ≡ w.1) ⊎ (u ≢ w.1) → HasTerm u (pos 0) (solved_form w.1 q)
    go (inl same) = subst (λ n. HasTerm n (pos 0) (solved_form w.1 q)) (sym same) once.gone
    go (inr other) =
        none_times u (neg_ℤ (leaf_sign w.1 (difference q))) (without w.1 (form (difference q)))
        (none_without u w.1 (form (difference q)) (absent_stands_nowhere u (difference q) none))
      where
        apart : by.number ≢ e
        apart same =
            let mine = (defines_parts m a k w e is d).1 in
            let theirs : has_alone m a by.party e ≡ true = subst (λ n. has_alone m a by.party n ≡ true) same (defines_parts m a by.party (by.sense, u) by.number by.objective by.defines).1 in
            let party : by.party ≡ k = one_party m a by.party k e theirs mine in
            other (ap (λ w. w.1) (same_Some (by.sense, u) w (sym by.objective ∙ (ap (objective m a) party ∙ is))))

        none : leaves u (difference q) ≡ 0
        none = find (slice_get m.equations by.number) refl
          where
            find : (o : Option Equation) → slice_get m.equations by.number ≡ o → leaves u (difference q) ≡ 0
            find None there =
                let tie = (can_tie m a by.number u (defines_parts m a by.party (by.sense, u) by.number by.objective by.defines).0).1 in
                absurd (false≢true (subst (λ o. ties u o ≡ true) there tie))
            find (Some c) there =
                let can = can_tie m a by.number u (defines_parts m a by.party (by.sense, u) by.number by.objective by.defines).0 in
                let occurs = can.0 in
                let two = leaves_apart u m.equations by.number e c q there at apart in
                let some = tie_leaves u c (subst (λ o. ties u o ≡ true) there can.1) in
                omega (arith, occurs, two, some)

pub none_goal : (m : Model) (a : Annot) (k : Party) (w : Sense × ℕ) (e : ℕ) (q : Equation) (u : ℕ) → objective m a k ≡ Some w → slice_get m.equations e ≡ Some q → defines m a k e ≡ true → is_defined m a u ≡ true → HasTerm u (pos 0) (goal_form m a k)
none_goal m a k w e q u is at d h =
    subst (λ o. HasTerm u (pos 0) (signed_for o (given_form m a k))) (sym is)
    (none_signed u w.0 (given_form m a k) (subst (λ f. HasTerm u (pos 0) f) (sym ((given_form_is m a k w is).defined e q at d)) (none_solved m a k w e q u is at d (defined_by m a u h))))

-- ---- terms of a polynomial
zero_coefficient : (x : Frac) (d : ℤ) → pos 0 <ℤ d → IsQuotient x (pos 0) d → is_not_zero x.num ≡ true → ⊥
zero_coefficient x d above h some =
    let top : x.num ≡ pos 0 = cancel_right x.num (pos 0) d (h ∙ (zero-*ℤ x.den ∙ sym (zero-*ℤ d))) above in
    false≢true (subst (λ z. is_not_zero z ≡ true) top some)

pub linear_named : (q : Quad) (f : Form) (u : ℕ) → HasForm q f → HasTerm u (pos 0) f → is_not_zero (linear_at q.linear u).num ≡ true → ⊥
linear_named q f u h none some = zero_coefficient (linear_at q.linear u) f.den h.den (subst (λ z. IsQuotient (linear_at q.linear u) z f.den) (none_linear u f none) (h.linear u)) some

pub first_named : (q : Quad) (f : Form) (u v : ℕ) → HasForm q f → HasTerm u (pos 0) f → u ≤ v → is_not_zero (square_at q.square u v).num ≡ true → ⊥
first_named q f u v h none l some = zero_coefficient (square_at q.square u v) f.den h.den (subst (λ z. IsQuotient (square_at q.square u v) z f.den) (none.first v) (h.square u v l)) some

pub second_named : (q : Quad) (f : Form) (u v : ℕ) → HasForm q f → HasTerm v (pos 0) f → u ≤ v → is_not_zero (square_at q.square u v).num ≡ true → ⊥
second_named q f u v h none l some = zero_coefficient (square_at q.square u v) f.den h.den (subst (λ z. IsQuotient (square_at q.square u v) z f.den) (none.second u) (h.square u v l)) some

-- ---- the same entries at the variables of the terms, the same fold
linear_near : (ts : List (VarId × Frac)) (least : ℕ) (s : Formula) (xs ys : List Frac) → is_linear_from least ts ≡ true → ((u : ℕ) → is_not_zero (linear_at ts u).num ≡ true → entry xs u ≡ entry ys u) → linear_from s ts xs ≡ linear_from s ts ys
linear_near [] least s xs ys kept h = refl
linear_near (t ∷ ts) least s xs ys kept h =
    let f : LinearFacts t ts least = linear_facts t ts least kept in
    ap (λ x. linear_from (added s (multiplied (given t.1) (given x))) ts xs) (h t.0.at (ap (λ b. is_not_zero (cond b t.1 (linear_at ts t.0.at)).num) (eq-eqb t.0.at t.0.at refl) ∙ f.some))
    ∙ linear_near ts (t.0.at + 1) (linear_term s t ys) xs ys f.rest (λ u some. h u (later f.rest u some))
  where
    later : is_linear_from (t.0.at + 1) ts ≡ true → (u : ℕ) → is_not_zero (linear_at ts u).num ≡ true → is_not_zero (cond (nat_eq t.0.at u) t.1 (linear_at ts u)).num ≡ true
    later rest u some = go (cases_eq t.0.at u)
      where
        go : (t.0.at ≡ u) ⊎ (t.0.at ≢ u) → is_not_zero (cond (nat_eq t.0.at u) t.1 (linear_at ts u)).num ≡ true
        go (inl same) = absurd (false≢true (ap (λ (x : Frac). is_not_zero x.num) (sym (linear_below ts (t.0.at + 1) u rest (omega arith))) ∙ some))
        go (inr other) = ap (λ b. is_not_zero (cond b t.1 (linear_at ts u)).num) (ne_eqb t.0.at u other) ∙ some

square_near : (ts : List (VarId × VarId × Frac)) (i j : ℕ) (s : Formula) (xs ys : List Frac) → is_square_from i j ts ≡ true → ((u v : ℕ) → u ≤ v → is_not_zero (square_at ts u v).num ≡ true → (entry xs u ≡ entry ys u) × (entry xs v ≡ entry ys v)) → square_from s ts xs ≡ square_from s ts ys
square_near [] i j s xs ys kept h = refl
square_near (t ∷ ts) i j s xs ys kept h =
    let f : SquareFacts t ts i j = square_facts t ts i j kept in
    let both = h t.0.at t.1.at f.ordered (ap (λ b. is_not_zero (cond b t.2 (square_at ts t.0.at t.1.at)).num) (ap₂ (λ b c. b && c) (eq-eqb t.0.at t.0.at refl) (eq-eqb t.1.at t.1.at refl)) ∙ f.some) in
    ap₂ (λ x y. square_from (added s (multiplied (given t.2) (multiplied (given x) (given y)))) ts xs) both.0 both.1
    ∙ square_near ts t.0.at (t.1.at + 1) (square_term s t ys) xs ys f.rest (λ u v l some. h u v l (later f.rest u v some))
  where
    later : is_square_from t.0.at (t.1.at + 1) ts ≡ true → (u v : ℕ) → is_not_zero (square_at ts u v).num ≡ true → is_not_zero (cond (nat_eq t.0.at u && nat_eq t.1.at v) t.2 (square_at ts u v)).num ≡ true
    later rest u v some = ap (λ b. is_not_zero (cond b t.2 (square_at ts u v)).num) (pair_apart t.0.at t.1.at u v differs) ∙ some
      where
        differs : t.0.at ≡ u → t.1.at ≡ v → ⊥
        differs e g = false≢true (ap (λ (x : Frac). is_not_zero x.num) (sym (square_below ts t.0.at (t.1.at + 1) u v rest (inr (sym e, omega arith)))) ∙ some)

pub written_near : (q : Quad) (xs ys : List Frac) → ((u : ℕ) → is_not_zero (linear_at q.linear u).num ≡ true → entry xs u ≡ entry ys u) → ((u v : ℕ) → u ≤ v → is_not_zero (square_at q.square u v).num ≡ true → (entry xs u ≡ entry ys u) × (entry xs v ≡ entry ys v)) → written_value q xs ≡ written_value q ys
written_near q xs ys h k =
    ap (λ s. square_from s q.square xs) (linear_near q.linear 0 (given q.constant) xs ys q.linear_kept h) ∙ square_near q.square 0 0 (linear_from (given q.constant) q.linear ys) xs ys q.square_kept k
