-- The constraints of blocks and of the leader, as lists.
use Rattle.std.proofs.Common.{◌≡◌, ℕ, zero, suc, ◌+◌, ◌<◌, ◌≤◌, Bool, true, false, ◌&&◌, not, cond, nat_eq, List, [], ◌∷◌, ◌++◌, All, length, get_or, take, map, Option, Some, arith, refl, sym, ap, ap₂, subst, ◌∙◌}
use Rattle.std.specs.Prelude.{slice_get, filter}
use Rattle.std.proofs.lemmas.Bool.{eq-eqb, or_left, or_right}
use Rattle.std.proofs.lemmas.List.{take_more, take_all, append-nil}
use Rattle.std.proofs.lemmas.List.Elements.{filter-append}
use Rattle.std.proofs.lemmas.Option.{same_Some}
use Rattle.emp_ast.specs.declared.tree.EquId.{EquId}
use Rattle.emp_ast.specs.declared.model.Equation.{Equation}
use Rattle.emp_ast.specs.declared.model.Model.{Model}
use Rattle.emp_ast.specs.declared.annot.Block.{Block}
use Rattle.emp_ast.specs.declared.annot.Block.TheVariants.{Agent, Vi}
use Rattle.emp_ast.specs.declared.annot.Annot.{Annot}
use Rattle.emp_ast.specs.Parties.{leader, block, names_variable, names_equation, block_variables, listed_equations, block_equations, equations, all_equations, some_block_has, is_constraint, constraints, defines, functions, equations_by}
use Rattle.emp_form.specs.Form.{Form}
use Rattle.emp_form.specs.Expansion.{form}
use Rattle.emp_poly.specs.Quads.{HasForm}
use Rattle.emp_poly.specs.Gradient.{LinHasForm}
use Rattle.emp_poly.specs.declared.quad.Quad.{Quad}
use Rattle.emp_owner.specs.Finding.{is_entry}
use Rattle.emp_owner.specs.Settled.{IsDefinition}
use Rattle.emp_owner.proofs.Defining.{constrains_is}
use Rattle.emp_owner.proofs.Lists.{get_is}
use Rattle.emp_agents.specs.Given.{difference}
use Rattle.emp_problem.specs.declared.problem.Rule.{Rule}
use Rattle.emp_problem.specs.ProblemOf.{IsRuleFor, AreRulesFor}
use Rattle.emp_problem.specs.Class.{EquationsFit, BlockFits, AnnotFits}
use Rattle.emp_subst.specs.Stages.{AreDifferences, is_rest}
use Rattle.emp_subst.proofs.Defined.{leader_names}

-- ---- one constraint
pub is_rule : (m : Model) (ds : List Quad) (e : EquId) (r : Rule) (d : Quad) (x : Equation) → AreDifferences m ds → e.at < length m.equations → d ≡ get_or ds e.at d → x ≡ get_or m.equations e.at x → r.equation ≡ e → r.relation ≡ x.relation → ((f : Form) → HasForm d f → LinHasForm r.row f) → IsRuleFor m e r
is_rule m ds e r d x are l is_d is_x q rel row = record {
  equation = q;
  relation = λ y at. rel ∙ ap (λ (z : Equation). z.relation) (same_Some x y (sym here ∙ at));
  row = λ y at. row (form (difference y)) (are.each e.at y d at (get_is ds e.at d (let c = are.count in omega arith) is_d));
}
  where
    here : slice_get m.equations e.at ≡ Some x
    here = get_is m.equations e.at x l is_x

rules_push : (m : Model) (es : List EquId) (rs : List Rule) (e : EquId) (r : Rule) → AreRulesFor m es rs → IsRuleFor m e r → AreRulesFor m (es ++ e ∷ []) (rs ++ r ∷ [])
rules_push m [] [] e r h k = (k, tt)
rules_push m [] (s ∷ rs) e r h k = absurd h
rules_push m (d ∷ es) [] e r h k = absurd h
rules_push m (d ∷ es) (s ∷ rs) e r h k = (h.0, rules_push m es rs e r h.1 k)

pub rules_more : (m : Model) (es : List EquId) (rs : List Rule) (i : ℕ) (e : EquId) (r : Rule) → i < length es → e ≡ get_or es i e → AreRulesFor m (take i es) rs → IsRuleFor m e r → AreRulesFor m (take (i + 1) es) (rs ++ r ∷ [])
rules_more m es rs i e r l is h k = subst (λ ys. AreRulesFor m ys (rs ++ r ∷ [])) (ap (λ y. take i es ++ y ∷ []) is ∙ sym (take_more es i e l)) (rules_push m (take i es) rs e r h k)

pub rules_done : (m : Model) (es : List EquId) (rs : List Rule) (i : ℕ) → length es ≤ i → AreRulesFor m (take i es) rs → AreRulesFor m es rs
rules_done m es rs i l h = subst (λ ys. AreRulesFor m ys rs) (take_all i es l) h

pub all_cons : {X : Type 0} (P : X → Type 0) (x : X) (xs : List X) → P x → All P xs → All P (x ∷ xs)
all_cons P x xs h k zero d l = h
all_cons P x xs h k (suc i) d l = k i d (omega arith)

pub all_head : {X : Type 0} (P : X → Type 0) (x : X) (xs : List X) → All P (x ∷ xs) → P x
all_head P x xs h = h 0 x (omega arith)

pub all_tail : {X : Type 0} (P : X → Type 0) (x : X) (xs : List X) → All P (x ∷ xs) → All P xs
all_tail P x xs h i d l = h (suc i) d (omega arith)

all_none : {X : Type 0} (P : X → Type 0) → All P []
all_none P i d l = absurd (omega arith)

pub all_at : {X : Type 0} (P : X → Type 0) (xs : List X) (i : ℕ) (x : X) → All P xs → i < length xs → x ≡ get_or xs i x → P x
all_at P xs i x h l is = subst P (sym is) (h i x l)

-- ---- the leader's
count_all : (at : ℕ) (qs : List Equation) → length (all_equations at qs) ≡ length qs
count_all at [] = refl
count_all at (q ∷ qs) = ap suc (count_all (at + 1) qs)

number_all : (at : ℕ) (qs : List Equation) (i : ℕ) (d : EquId) → i < length qs → (get_or (all_equations at qs) i d).at ≡ at + i
number_all at [] i d l = absurd (omega arith)
number_all at (q ∷ qs) zero d l = omega arith
number_all at (q ∷ qs) (suc i) d l = let h = number_all (at + 1) qs i d (omega arith) in omega arith

same_id : (x y : EquId) → x.at ≡ y.at → x ≡ y
same_id x y e = grind arith

abbrev pub leaders : Model → Annot → List EquId → List EquId
leaders m a es = filter (λ e. is_constraint m a leader e.at) (filter (λ e. not (some_block_has a e.at)) es)

leaders-append : (m : Model) (a : Annot) (es fs : List EquId) → leaders m a (es ++ fs) ≡ leaders m a es ++ leaders m a fs
leaders-append m a es fs =
    ap (filter (λ e. is_constraint m a leader e.at)) (filter-append (λ e. not (some_block_has a e.at)) es fs) ∙ filter-append (λ e. is_constraint m a leader e.at) (filter (λ e. not (some_block_has a e.at)) es) (filter (λ e. not (some_block_has a e.at)) fs)

leaders_one : (m : Model) (a : Annot) (e : EquId) (b : Bool) → e.at < length m.equations → is_constraint m a leader e.at ≡ b → leaders m a (e ∷ []) ≡ cond b (e ∷ []) []
leaders_one m a e b l is = go (not (some_block_has a e.at)) refl
  where
    go : (c : Bool) → not (some_block_has a e.at) ≡ c → filter (λ e. is_constraint m a leader e.at) (cond (not (some_block_has a e.at)) (e ∷ []) []) ≡ cond b (e ∷ []) []
    go true has = rw has (ap (λ d. cond d (e ∷ []) []) is)
    go false has = rw has (ap (λ d. cond d (e ∷ []) []) (sym (ap (λ n. n && not (defines m a leader e.at) && true) (leader_names m a e.at l ∙ has)) ∙ is))

pub leaders_step : (m : Model) (a : Annot) (out : List EquId) (i : ℕ) (e : EquId) (b : Bool) → i < length m.equations → e.at ≡ i → is_constraint m a leader e.at ≡ b → out ≡ leaders m a (take i (all_equations 0 m.equations)) → out ++ cond b (e ∷ []) [] ≡ leaders m a (take (i + 1) (all_equations 0 m.equations))
leaders_step m a out i e b l at is h =
    ap (λ ys. ys ++ cond b (e ∷ []) []) h
    ∙ (ap (λ ys. leaders m a (take i (all_equations 0 m.equations)) ++ ys) (sym (leaders_one m a e b (omega arith) is))
    ∙ (sym (leaders-append m a (take i (all_equations 0 m.equations)) (e ∷ []))
    ∙ ap (leaders m a) (ap (λ y. take i (all_equations 0 m.equations) ++ y ∷ []) (same_id e (get_or (all_equations 0 m.equations) i e) (let k = number_all 0 m.equations i e l in omega (arith, at))) ∙ sym (take_more (all_equations 0 m.equations) i e (let c = count_all 0 m.equations in omega arith)))))

pub leaders_keep : (m : Model) (a : Annot) (out : List EquId) (i : ℕ) (e : EquId) → i < length m.equations → e.at ≡ i → is_constraint m a leader e.at ≡ true → out ≡ leaders m a (take i (all_equations 0 m.equations)) → out ++ e ∷ [] ≡ leaders m a (take (i + 1) (all_equations 0 m.equations))
leaders_keep m a out i e l at is h = leaders_step m a out i e true l at is h

pub leaders_pass : (m : Model) (a : Annot) (out : List EquId) (i : ℕ) (e : EquId) → i < length m.equations → e.at ≡ i → is_constraint m a leader e.at ≡ false → out ≡ leaders m a (take i (all_equations 0 m.equations)) → out ≡ leaders m a (take (i + 1) (all_equations 0 m.equations))
leaders_pass m a out i e l at is h = sym (append-nil out) ∙ leaders_step m a out i e false l at is h

pub leaders_done : (m : Model) (a : Annot) (out : List EquId) (i : ℕ) → length m.equations ≤ i → out ≡ leaders m a (take i (all_equations 0 m.equations)) → out ≡ constraints m a leader
leaders_done m a out i l h = h ∙ ap (leaders m a) (take_all i (all_equations 0 m.equations) (let c = count_all 0 m.equations in omega arith))

-- ---- a block's
same_filter : (p q : ℕ → Bool) (es : List EquId) → ((e : ℕ) → names_equation es e ≡ true → p e ≡ q e) → filter (λ e. p e.at) es ≡ filter (λ e. q e.at) es
same_filter p q [] h = refl
same_filter p q (x ∷ es) h = ap₂ (λ b (ys : List EquId). cond b (x ∷ ys) ys) (h x.at (or_left (nat_eq x.at x.at) (names_equation es x.at) (eq-eqb x.at x.at refl))) (same_filter p q es (λ e k. h e (or_right (nat_eq x.at e) (names_equation es e) k)))

pub block_rest : (m : Model) (a : Annot) (k : ℕ) (b : Block) (d : Option EquId) → slice_get a.blocks k ≡ Some b → IsDefinition m a (block k) d → filter (λ e. is_rest b d e.at) (block_equations a b) ≡ constraints m a (block k)
block_rest m a k b d at h =
    same_filter (is_rest b d) (is_constraint m a (block k)) (block_equations a b) same ∙ ap (λ o. filter (λ e. is_constraint m a (block k) e.at) (equations_by a o)) (sym at)
  where
    same : (e : ℕ) → names_equation (block_equations a b) e ≡ true → is_rest b d e ≡ is_constraint m a (block k) e
    same e named = ap (λ n. n && not (is_entry d e) && not (names_equation (functions b) e)) (sym named) ∙ constrains_is m a k b d e at h

-- ---- equations that are there
pub all_append : {X : Type 0} (P : X → Type 0) (xs ys : List X) → All P xs → All P ys → All P (xs ++ ys)
all_append P [] ys h k = k
all_append P (x ∷ xs) ys h k = all_cons P x (xs ++ ys) (all_head P x xs h) (all_append P xs ys (all_tail P x xs h) k)

pub all_filter : {X : Type 0} (P : X → Type 0) (p : X → Bool) (xs : List X) → All P xs → All P (filter p xs)
all_filter P p [] h = all_none P
all_filter P p (x ∷ xs) h = go (p x) (all_filter P p xs (all_tail P x xs h))
  where
    go : (b : Bool) → All P (filter p xs) → All P (cond b (x ∷ filter p xs) (filter p xs))
    go true k = all_cons P x (filter p xs) (all_head P x xs h) k
    go false k = k

pub all_map : {X Y : Type 0} (f : X → Y) (P : X → Type 0) (Q : Y → Type 0) → ((x : X) → P x → Q (f x)) → (xs : List X) → All P xs → All Q (map f xs)
all_map f P Q h [] k = all_none Q
all_map f P Q h (x ∷ xs) k = all_cons Q (f x) (map f xs) (h x (all_head P x xs k)) (all_map f P Q h xs (all_tail P x xs k))

listed_fit : (v n : ℕ) (b : Block) → BlockFits v n b → EquationsFit n (listed_equations b)
listed_fit v n (Agent s w vars equs) h = h.2
listed_fit v n (Vi zeros pairs equs) h =
    all_append (λ e. e.at < n) (map (λ q. q.0) pairs) equs (all_map (λ q. q.0) (λ q. (q.0.at < n) × (q.1.at < v)) (λ e. e.at < n) (λ q k. k.0) pairs h.1) h.2

pub equations_fit : (m : Model) (a : Annot) (b : Block) → AnnotFits m a → BlockFits (length m.variables) (length m.equations) b → EquationsFit (length m.equations) (block_equations a b)
equations_fit m a b fits h =
    all_append (λ e. e.at < length m.equations) (listed_equations b) (map (λ i. i.1) (filter (λ i. names_variable (block_variables b) i.0.at) a.implicits)) (listed_fit (length m.variables) (length m.equations) b h)
    (all_map (λ i. i.1) (λ i. (i.0.at < length m.variables) × (i.1.at < length m.equations)) (λ e. e.at < length m.equations) (λ i k. k.1) (filter (λ i. names_variable (block_variables b) i.0.at) a.implicits)
    (all_filter (λ i. (i.0.at < length m.variables) × (i.1.at < length m.equations)) (λ i. names_variable (block_variables b) i.0.at) a.implicits fits.implicits))

pub rest_fit : (m : Model) (a : Annot) (b : Block) (d : Option EquId) (es : List EquId) → AnnotFits m a → BlockFits (length m.variables) (length m.equations) b → es ≡ filter (λ e. is_rest b d e.at) (block_equations a b) → EquationsFit (length m.equations) es
rest_fit m a b d es fits h is =
    subst (λ ys. EquationsFit (length m.equations) ys) (sym is) (all_filter (λ e. e.at < length m.equations) (λ e. is_rest b d e.at) (block_equations a b) (equations_fit m a b fits h))

all_there : (at n : ℕ) (qs : List Equation) → at + length qs ≤ n → EquationsFit n (all_equations at qs)
all_there at n [] l = all_none (λ e. e.at < n)
all_there at n (q ∷ qs) l = all_cons (λ e. e.at < n) (record { at = at }) (all_equations (at + 1) qs) (omega arith) (all_there (at + 1) n qs (omega arith))

pub leader_fit : (m : Model) (a : Annot) (es : List EquId) → es ≡ constraints m a leader → EquationsFit (length m.equations) es
leader_fit m a es is =
    subst (λ ys. EquationsFit (length m.equations) ys) (sym is)
    (all_filter (λ e. e.at < length m.equations) (λ e. is_constraint m a leader e.at) (equations m a leader)
    (all_filter (λ e. e.at < length m.equations) (λ e. not (some_block_has a e.at)) (all_equations 0 m.equations) (all_there 0 (length m.equations) m.equations (omega arith))))

pub ruleset ruling = (rules_more, rules_done, all_at)

pub ruleset leading = (leaders_keep, leaders_pass, leaders_done)
