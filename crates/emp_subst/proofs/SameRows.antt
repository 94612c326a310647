-- An equation has one rule in all blocks.
use Rattle.std.proofs.Common.{◌≡◌, ◌≢◌, ◌⊎◌, inl, inr, ℕ, zero, suc, ◌+◌, ◌<◌, ℤ, pos, ◌<ℤ◌, true, cond, List, [], ◌∷◌, length, get_or, Some, arith, refl, sym, ap, ap₂, subst, subst₂, ◌∙◌}
use Rattle.std.specs.Prelude.{slice_get, filter}
use Rattle.std.proofs.lemmas.Bool.{eq-eqb, ne_eqb, cases_order, false≢true}
use Rattle.std.proofs.lemmas.Int.{ints}
use Rattle.std.proofs.lemmas.Option.{same_Some, slice_get_within, slice_get-get_or}
use Rattle.emp_num.specs.FracSpec.{IsQuotient}
use Rattle.emp_num.specs.Whole.{whole}
use Rattle.emp_num.specs.declared.frac.Frac.{Frac}
use Rattle.emp_ast.specs.declared.tree.VarId.{VarId}
use Rattle.emp_ast.specs.declared.tree.EquId.{EquId}
use Rattle.emp_ast.specs.declared.model.Relation.{Relation}
use Rattle.emp_ast.specs.declared.model.Equation.{Equation}
use Rattle.emp_ast.specs.declared.model.Model.{Model}
use Rattle.emp_ast.specs.declared.annot.Annot.{Annot}
use Rattle.emp_ast.specs.Parties.{block, block_equations, equations_by, constraints, is_constraint}
use Rattle.emp_form.specs.Form.{Form}
use Rattle.emp_form.specs.Expansion.{form}
use Rattle.emp_form.proofs.Running.{quotient_one}
use Rattle.emp_poly.specs.Terms.{is_not_zero, is_linear_from, is_linear}
use Rattle.emp_poly.specs.Quads.{linear_at}
use Rattle.emp_poly.specs.Gradient.{LinHasForm}
use Rattle.emp_poly.specs.declared.quad.Lin.{Lin}
use Rattle.std.proofs.Math.Bool.{Bool-set}
use Rattle.emp_poly.proofs.QuadForms.{linear_facts, linear_below}
use Rattle.emp_agents.specs.Given.{difference}
use Rattle.emp_problem.specs.declared.problem.Rule.{Rule}
use Rattle.emp_problem.specs.declared.problem.AgentProblem.{AgentProblem}
use Rattle.emp_problem.specs.ProblemOf.{IsRuleFor, AreRulesFor, IsProblemOf}
use Rattle.emp_problem.specs.Class.{EquationsFit, IsClassFile}
use Rattle.emp_subst.specs.Keeps.{HasRule}
use Rattle.emp_subst.proofs.Constraints.{all_filter, equations_fit}
use Rattle.emp_subst.proofs.Keeping.{fit_at}
use Rattle.emp_subst.proofs.Turning.{part_count, block_at}

-- ---- the coefficients tell the terms
here : (t : VarId × Frac) (ts : List (VarId × Frac)) → linear_at (t ∷ ts) t.0.at ≡ t.1
here t ts = ap (λ b. cond b t.1 (linear_at ts t.0.at)) (eq-eqb t.0.at t.0.at refl)

before : (u : VarId × Frac) (us : List (VarId × Frac)) (least i : ℕ) → is_linear_from least (u ∷ us) ≡ true → i < u.0.at → linear_at (u ∷ us) i ≡ whole 0
before u us least i kept l =
    ap (λ b. cond b u.1 (linear_at us i)) (ne_eqb u.0.at i (λ e. apart u.0.at i e l)) ∙ linear_below us (u.0.at + 1) i (linear_facts u us least kept).rest (omega arith)
  where
    apart : (v i : ℕ) → v ≡ i → i < v → ⊥
    apart v i e l = omega arith

some_not : (x : Frac) → is_not_zero x.num ≡ true → x ≡ whole 0 → ⊥
some_not x some e = false≢true (ap (λ (y : Frac). is_not_zero y.num) (sym e) ∙ some)

same_variable : (u v : VarId) → u.at ≡ v.at → u ≡ v
same_variable u v e = grind arith

same_terms : (ts us : List (VarId × Frac)) (least more : ℕ) → is_linear_from least ts ≡ true → is_linear_from more us ≡ true → ((i : ℕ) → linear_at ts i ≡ linear_at us i) → ts ≡ us
same_terms [] [] least more h k same = refl
same_terms [] (u ∷ us) least more h k same = absurd (some_not u.1 (linear_facts u us more k).some (sym (here u us) ∙ sym (same u.0.at)))
same_terms (t ∷ ts) [] least more h k same = absurd (some_not t.1 (linear_facts t ts least h).some (sym (here t ts) ∙ same t.0.at))
same_terms (t ∷ ts) (u ∷ us) least more h k same = go (cases_order t.0.at u.0.at) (same_terms ts us (t.0.at + 1) (u.0.at + 1) (linear_facts t ts least h).rest (linear_facts u us more k).rest)
  where
    go : (t.0.at ≡ u.0.at) ⊎ ((t.0.at < u.0.at) ⊎ (u.0.at < t.0.at)) → (((i : ℕ) → linear_at ts i ≡ linear_at us i) → ts ≡ us) → t ∷ ts ≡ u ∷ us
    go (inr (inl l)) rest = absurd (some_not t.1 (linear_facts t ts least h).some (sym (here t ts) ∙ (same t.0.at ∙ before u us more t.0.at k l)))
    go (inr (inr l)) rest = absurd (some_not u.1 (linear_facts u us more k).some (sym (here u us) ∙ (sym (same u.0.at) ∙ before t ts least u.0.at h l)))
    go (inl e) rest = ap₂ (λ x ys. x ∷ ys) (pair t.0 u.0 t.1 u.1 (same_variable t.0 u.0 e) number) (rest later)
      where
        pair : (v w : VarId) (x y : Frac) → v ≡ w → x ≡ y → ◌≡◌ {A = VarId × Frac} (v, x) (w, y)
        pair v w x y p q = rw (p, q) refl

        number : t.1 ≡ u.1
        number = sym (here t ts) ∙ (same t.0.at ∙ (ap (linear_at (u ∷ us)) e ∙ here u us))

        later : (i : ℕ) → linear_at ts i ≡ linear_at us i
        later i = at (cases_order t.0.at i)
          where
            other : t.0.at ≢ i → linear_at ts i ≡ linear_at us i
            other n = sym (ap (λ b. cond b t.1 (linear_at ts i)) (ne_eqb t.0.at i n)) ∙ (same i ∙ ap (λ b. cond b u.1 (linear_at us i)) (ne_eqb u.0.at i (λ x. n (e ∙ x))))

            at : (t.0.at ≡ i) ⊎ ((t.0.at < i) ⊎ (i < t.0.at)) → linear_at ts i ≡ linear_at us i
            at (inl s) = linear_below ts (t.0.at + 1) i (linear_facts t ts least h).rest (omega arith) ∙ sym (linear_below us (u.0.at + 1) i (linear_facts u us more k).rest (omega arith))
            at (inr (inl l)) = other (λ s. above t.0.at i s l)
              where
                above : (v i : ℕ) → v ≡ i → v < i → ⊥
                above v i s l = omega arith
            at (inr (inr l)) = other (λ s. under t.0.at i s l)
              where
                under : (v i : ℕ) → v ≡ i → i < v → ⊥
                under v i s l = omega arith

lin_eq : (l k : Lin) → l.constant ≡ k.constant → l.linear ≡ k.linear → l ≡ k
lin_eq l k p q = subst₂ Same p q base k.linear_kept
  where
    Same : Frac → List (VarId × Frac) → Type 0
    Same c ts = (h : is_linear ts ≡ true) → l ≡ record { constant = c; linear = ts; linear_kept = h }

    base : Same l.constant l.linear
    base h = ap (λ (z : is_linear l.linear ≡ true). with_kept z) (Bool-set (is_linear l.linear) true l.linear_kept h)
      where
        with_kept : is_linear l.linear ≡ true → Lin
        with_kept z = record { constant = l.constant; linear = l.linear; linear_kept = z }

pub same_lin : (l k : Lin) (f : Form) → LinHasForm l f → LinHasForm k f → l ≡ k
same_lin l k f h j =
    lin_eq l k (one f.constant l.constant k.constant h.constant j.constant) (same_terms l.linear k.linear 0 0 l.linear_kept k.linear_kept (λ i. one (f.linear i) (linear_at l.linear i) (linear_at k.linear i) (h.linear i) (j.linear i)))
  where
    one : (n : ℤ) (x y : Frac) → IsQuotient x n f.den → IsQuotient y n f.den → x ≡ y
    one n x y p q = quotient_one n f.den x y (λ e. not_zero f.den h.den e) p q
      where
        not_zero : (d : ℤ) → pos 0 <ℤ d → d ≡ pos 0 → ⊥
        not_zero d l e = omega (arith, ints)

-- ---- rules
rule_eq : (r s : Rule) → r.equation ≡ s.equation → r.relation ≡ s.relation → r.row ≡ s.row → r ≡ s
rule_eq r s e f g = same r.equation s.equation r.relation s.relation r.row s.row e f g
  where
    same : (a b : EquId) (c d : Relation) (l k : Lin) → a ≡ b → c ≡ d → l ≡ k → ◌≡◌ {A = Rule} (record { equation = a; relation = c; row = l }) (record { equation = b; relation = d; row = k })
    same a b c d l k e f g = rw (e, f, g) refl

rule_at : (m : Model) (es : List EquId) (rs : List Rule) (i : ℕ) (r : Rule) → AreRulesFor m es rs → slice_get rs i ≡ Some r → (e : EquId) × (slice_get es i ≡ Some e) × IsRuleFor m e r
rule_at m [] [] i r h at = cc
rule_at m [] (x ∷ rs) i r h at = absurd h
rule_at m (e ∷ es) [] i r h at = absurd h
rule_at m (e ∷ es) (x ∷ rs) zero r h at = (e, refl, subst (λ (y : Rule). IsRuleFor m e y) (same_Some x r at) h.0)
rule_at m (e ∷ es) (x ∷ rs) (suc i) r h at = rule_at m es rs i r h.1 at

some_at : {X : Type 0} (xs : List X) (n : ℕ) → n < length xs → (x : X) × (slice_get xs n ≡ Some x)
some_at [] n l = absurd (omega arith)
some_at (x ∷ xs) zero l = (x, refl)
some_at (x ∷ xs) (suc n) l = some_at xs n (omega arith)

-- the rule is that of its equation, which is there
pub record RuleOf (m : Model) (r : Rule) : Type 0 where
  pub equation : Equation
  pub there : slice_get m.equations r.equation.at ≡ Some equation
  pub relation : r.relation ≡ equation.relation
  pub row : LinHasForm r.row (form (difference equation))

pub rule_of : (m : Model) (a : Annot) (pr : AgentProblem) (r : Rule) → IsClassFile m a → IsProblemOf m a pr → HasRule pr r → RuleOf m r
rule_of m a pr r class problem h =
    let c = part_count m a pr problem in
    let b = some_at a.blocks h.number (let l = slice_get_within pr.blocks h.number h.part h.is in omega (arith, c, l)) in
    let found = rule_at m (constraints m a (block h.number)) h.part.rules h.place r (block_at m a pr h.number b.0 h.part problem b.1 h.is).rules h.at in
    let fit : EquationsFit (length m.equations) (constraints m a (block h.number)) =
    subst (λ o. EquationsFit (length m.equations) (filter (λ e. is_constraint m a (block h.number) e.at) (equations_by a o))) (sym b.1)
    (all_filter (λ e. e.at < length m.equations) (λ e. is_constraint m a (block h.number) e.at) (block_equations a b.0) (equations_fit m a b.0 class.fits (fit_at m a h.number b.0 class.fits b.1))) in
    let l = slice_get_within (constraints m a (block h.number)) h.place found.0 found.1 in
    let inside : found.0.at < length m.equations =
    subst (λ (e : EquId). e.at < length m.equations) (same_Some (get_or (constraints m a (block h.number)) h.place found.0) found.0 (sym (slice_get-get_or (constraints m a (block h.number)) h.place found.0 l) ∙ found.1)) (fit h.place found.0 l) in
    let q = some_at m.equations found.0.at inside in
    record {
      equation = q.0;
      there = ap (λ (e : EquId). slice_get m.equations e.at) found.2.equation ∙ q.1;
      relation = found.2.relation q.0 q.1;
      row = found.2.row q.0 q.1;
    }

pub same_rules : (m : Model) (a : Annot) (pr : AgentProblem) (r s : Rule) → IsClassFile m a → IsProblemOf m a pr → HasRule pr r → HasRule pr s → r.equation ≡ s.equation → r ≡ s
same_rules m a pr r s class problem h k e =
    let x = rule_of m a pr r class problem h in
    let y = rule_of m a pr s class problem k in
    let same : x.equation ≡ y.equation = same_Some x.equation y.equation (sym x.there ∙ (ap (λ (d : EquId). slice_get m.equations d.at) e ∙ y.there)) in
    rule_eq r s e (x.relation ∙ (ap (λ (q : Equation). q.relation) same ∙ sym y.relation)) (same_lin r.row s.row (form (difference y.equation)) (subst (λ (q : Equation). LinHasForm r.row (form (difference q))) same x.row) y.row)
