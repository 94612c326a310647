-- The constraints of a party: each has its equation and is affine, and their list names them all.
use Rattle.std.proofs.Common.{◌≡◌, ◌⊎◌, inl, inr, ℕ, zero, suc, ◌+◌, ◌<◌, Bool, true, false, ◌&&◌, ◌||◌, not, cond, nat_eq, List, [], ◌∷◌, All, map, length, Option, Some, None, arith, refl, sym, ap, subst, ◌∙◌}
use Rattle.std.specs.Prelude.{slice_get}
use Rattle.std.specs.List.{filter}
use Rattle.std.proofs.lemmas.Bool.{eqb-true, and_from, false≢true, cases_Bool}
use Rattle.std.proofs.lemmas.Option.{slice_get_within, get_or_from_slice_get}
use Rattle.std.proofs.lemmas.List.Elements.{All-nil, All-cons, All-head, All-tail, All-append, All-map, All-filter, All-weaker}
use Rattle.emp_ast.specs.declared.tree.EquId.{EquId}
use Rattle.emp_ast.specs.declared.model.Equation.{Equation}
use Rattle.emp_ast.specs.declared.model.Model.{Model}
use Rattle.emp_ast.specs.declared.annot.Block.{Block}
use Rattle.emp_ast.specs.declared.annot.Block.TheVariants.{Agent, Vi}
use Rattle.emp_ast.specs.declared.annot.Annot.{Annot}
use Rattle.emp_ast.specs.Parties.{Party, leader, block, names_variable, names_equation, block_variables, listed_equations, functions, all_equations, equations_by, equations, some_block_has, defines, block_functions, is_constraint, constraints}
use Rattle.emp_split.proofs.Each.{or_first, or_second}
use Rattle.emp_problem.specs.Class.{BlockFits, some_block_constrains, is_affine, IsClassFile}
use Rattle.emp_owner.specs.Rules.{is_function}
use Rattle.emp_meaning.specs.Ties.{IsParty}
use Rattle.emp_meaning.proofs.Move.{block_fits}
use Rattle.emp_meaning.proofs.TieLists.{any_at}

pub all_here : {X : Type 0} (P : X → Type 0) (xs : List X) (i : ℕ) (x : X) → slice_get xs i ≡ Some x → All P xs → P x
all_here P xs i x h all = subst P (get_or_from_slice_get xs i x x h) (all i x (slice_get_within xs i x h))

-- ---- affine equations
last_or_before : (k n : ℕ) → k < suc n → (k ≡ n) ⊎ (k < n)
last_or_before k n h = grind arith

some_constrains : (m : Model) (a : Annot) (e n k : ℕ) → k < n → is_constraint m a (block k) e ≡ true → some_block_constrains m a e n ≡ true
some_constrains m a e zero k l h = absurd (omega arith)
some_constrains m a e (suc n) k l h = go (last_or_before k n l) (λ s. some_constrains m a e n k s h)
  where
    go : (k ≡ n) ⊎ (k < n) → (k < n → some_block_constrains m a e n ≡ true) → some_block_constrains m a e (suc n) ≡ true
    go (inl s) rest = or_first (is_constraint m a (block n) e) (some_block_constrains m a e n) (ap (λ i. is_constraint m a (block i) e) (sym s) ∙ h)
    go (inr s) rest = or_second (is_constraint m a (block n) e) (some_block_constrains m a e n) (rest s)

pub constraint_affine : (m : Model) (a : Annot) (k : Party) (e : ℕ) → IsParty a k → is_constraint m a k e ≡ true → is_affine m a e ≡ true
constraint_affine m a leader e p h =
    or_second (some_block_constrains m a e (length a.blocks)) ((a.bilevel && is_constraint m a leader e) || is_function a e)
    (or_first (a.bilevel && is_constraint m a leader e) (is_function a e) (and_from a.bilevel (is_constraint m a leader e) p h))
constraint_affine m a (block k) e p h =
    or_first (some_block_constrains m a e (length a.blocks)) ((a.bilevel && is_constraint m a leader e) || is_function a e) (some_constrains m a e (length a.blocks) k p h)

pub function_affine : (m : Model) (a : Annot) (k : ℕ) (b : Block) (e : ℕ) → slice_get a.blocks k ≡ Some b → names_equation (functions b) e ≡ true → is_affine m a e ≡ true
function_affine m a k b e at h =
    or_second (some_block_constrains m a e (length a.blocks)) ((a.bilevel && is_constraint m a leader e) || is_function a e)
    (or_second (a.bilevel && is_constraint m a leader e) (is_function a e) (any_at (λ c. names_equation (functions c) e) a.blocks k b at h))

-- ---- the equations of a party are there
abbrev Below : ℕ → EquId → Type 0
Below n e = e.at < n

all_below : (at : ℕ) (qs : List Equation) → All (Below (at + length qs)) (all_equations at qs)
all_below at [] = All-nil (Below (at + 0))
all_below at (q ∷ qs) = All-cons (Below (at + suc (length qs))) (record { at = at }) (all_equations (at + 1) qs) (omega arith) (All-weaker (Below (at + 1 + length qs)) (Below (at + suc (length qs))) (λ e h. omega arith) (all_equations (at + 1) qs) (all_below (at + 1) qs))

listed_below : (v n : ℕ) (b : Block) → BlockFits v n b → All (Below n) (listed_equations b)
listed_below v n (Agent sense objective vars equs) h = h.2
listed_below v n (Vi zeros pairs equs) h =
    All-append (Below n) (map (λ q. q.0) pairs) equs
    (All-map (Below n) (λ q. q.0) pairs (All-weaker (λ q. (q.0.at < n) × (q.1.at < v)) (λ q. Below n q.0) (λ q w. w.0) pairs h.1))
    h.2

pub equations_below : (m : Model) (a : Annot) → IsClassFile m a → (k : Party) → All (Below (length m.equations)) (equations m a k)
equations_below m a class leader = All-filter (λ e. not (some_block_has a e.at)) (Below (length m.equations)) (all_equations 0 m.equations)
    (All-weaker (Below (0 + length m.equations)) (Below (length m.equations)) (λ e h. omega arith) (all_equations 0 m.equations) (all_below 0 m.equations))
equations_below m a class (block k) = go (slice_get a.blocks k) refl
  where
    go : (o : Option Block) → slice_get a.blocks k ≡ o → All (Below (length m.equations)) (equations_by a o)
    go None at = All-nil (Below (length m.equations))
    go (Some b) at =
        All-append (Below (length m.equations)) (listed_equations b) (map (λ i. i.1) (filter (λ i. names_variable (block_variables b) i.0.at) a.implicits))
        (listed_below (length m.variables) (length m.equations) b (block_fits m a k b class at))
        (All-map (Below (length m.equations)) (λ i. i.1) (filter (λ i. names_variable (block_variables b) i.0.at) a.implicits)
        (All-filter (λ i. names_variable (block_variables b) i.0.at) (λ i. Below (length m.equations) i.1) a.implicits
        (All-weaker (λ i. (i.0.at < length m.variables) × (i.1.at < length m.equations)) (λ i. Below (length m.equations) i.1) (λ i w. w.1) a.implicits class.fits.implicits)))

-- ---- each constraint
pub record Listed (m : Model) (a : Annot) (k : Party) (e : ℕ) : Type 0 where
  pub equation : Equation
  pub at : slice_get m.equations e ≡ Some equation
  pub is : is_constraint m a k e ≡ true
  pub affine : is_affine m a e ≡ true

abbrev pub EachListed : Model → Annot → Party → List EquId → Type 0
EachListed m a k [] = Unit {0}
EachListed m a k (e ∷ es) = Listed m a k e.at × EachListed m a k es

pub there_is : {X : Type 0} (qs : List X) (i : ℕ) → i < length qs → (q : X) × (slice_get qs i ≡ Some q)
there_is [] i h = absurd (omega arith)
there_is (q ∷ qs) zero h = (q, refl)
there_is (q ∷ qs) (suc i) h = there_is qs i (omega arith)

listed_filter : (m : Model) (a : Annot) (k : Party) → IsParty a k → (es : List EquId) → All (Below (length m.equations)) es → EachListed m a k (filter (λ e. is_constraint m a k e.at) es)
listed_filter m a k p [] h = tt
listed_filter m a k p (e ∷ es) h = go (is_constraint m a k e.at) refl (listed_filter m a k p es (All-tail (Below (length m.equations)) e es h))
  where
    one : is_constraint m a k e.at ≡ true → (q : Equation) × (slice_get m.equations e.at ≡ Some q) → Listed m a k e.at
    one is q = record { equation = q.0; at = q.1; is = is; affine = constraint_affine m a k e.at p is }

    go : (b : Bool) → is_constraint m a k e.at ≡ b → EachListed m a k (filter (λ x. is_constraint m a k x.at) es) → EachListed m a k (filter (λ x. is_constraint m a k x.at) (e ∷ es))
    go true is rest = subst (λ b. EachListed m a k (cond b (e ∷ filter (λ x. is_constraint m a k x.at) es) (filter (λ x. is_constraint m a k x.at) es))) (sym is) (one is (there_is m.equations e.at (All-head (Below (length m.equations)) e es h)), rest)
    go false is rest = subst (λ b. EachListed m a k (cond b (e ∷ filter (λ x. is_constraint m a k x.at) es) (filter (λ x. is_constraint m a k x.at) es))) (sym is) rest

pub constraints_listed : (m : Model) (a : Annot) → IsClassFile m a → (k : Party) → IsParty a k → EachListed m a k (constraints m a k)
constraints_listed m a class k p = listed_filter m a k p (equations m a k) (equations_below m a class k)

-- ---- what the list names
named_filter : (test : ℕ → Bool) (es : List EquId) (e : ℕ) → test e ≡ true → names_equation es e ≡ true → names_equation (filter (λ x. test x.at) es) e ≡ true
named_filter test [] e t h = h
named_filter test (x ∷ es) e t h = go (cases_Bool (nat_eq x.at e)) (cases_Bool (test x.at)) (λ s. named_filter test es e t s)
  where
    go : (nat_eq x.at e ≡ true) ⊎ (nat_eq x.at e ≡ false) → (test x.at ≡ true) ⊎ (test x.at ≡ false) → (names_equation es e ≡ true → names_equation (filter (λ y. test y.at) es) e ≡ true) → names_equation (filter (λ y. test y.at) (x ∷ es)) e ≡ true
    go (inl s) (inl w) rest = ap (λ b. names_equation (cond b (x ∷ filter (λ y. test y.at) es) (filter (λ y. test y.at) es)) e) w ∙ or_first (nat_eq x.at e) (names_equation (filter (λ y. test y.at) es) e) s
    go (inl s) (inr w) rest = absurd (false≢true (sym w ∙ (ap test (eqb-true x.at e s) ∙ t)))
    go (inr s) (inl w) rest =
        ap (λ b. names_equation (cond b (x ∷ filter (λ y. test y.at) es) (filter (λ y. test y.at) es)) e) w ∙ or_second (nat_eq x.at e) (names_equation (filter (λ y. test y.at) es) e) (rest (sym (ap (λ b. b || names_equation es e) s) ∙ h))
    go (inr s) (inr w) rest = ap (λ b. names_equation (cond b (x ∷ filter (λ y. test y.at) es) (filter (λ y. test y.at) es)) e) w ∙ rest (sym (ap (λ b. b || names_equation es e) s) ∙ h)

pub constraint_named : (m : Model) (a : Annot) (k : Party) (e : ℕ) → is_constraint m a k e ≡ true → names_equation (constraints m a k) e ≡ true
constraint_named m a k e h = named_filter (λ x. is_constraint m a k x) (equations m a k) e h (first (names_equation (equations m a k) e) (not (defines m a k e)) (not (names_equation (block_functions a k) e)) h)
  where
    first : (b c d : Bool) → b && c && d ≡ true → b ≡ true
    first true c d s = refl
    first false c d s = s

pub named_listed : (m : Model) (a : Annot) (k : Party) (es : List EquId) (e : ℕ) → EachListed m a k es → names_equation es e ≡ true → Listed m a k e
named_listed m a k [] e l h = absurd (false≢true h)
named_listed m a k (x ∷ es) e l h = go (cases_Bool (nat_eq x.at e)) (λ s. named_listed m a k es e l.1 s)
  where
    go : (nat_eq x.at e ≡ true) ⊎ (nat_eq x.at e ≡ false) → (names_equation es e ≡ true → Listed m a k e) → Listed m a k e
    go (inl s) rest = subst (λ i. Listed m a k i) (eqb-true x.at e s) l.0
    go (inr s) rest = rest (sym (ap (λ b. b || names_equation es e) s) ∙ h)
