-- Stacks of polynomials that stand for the expressions that no node took yet.
use Rattle.std.proofs.Common.{◌≡◌, ℕ, suc, ◌+◌, ◌<◌, ◌≤◌, Bool, true, false, ◌&&◌, List, [], ◌∷◌, ◌++◌, length, get_or, take, drop, Result, Ok, Err, arith, refl, sym, ap, subst, subst₂, ◌∙◌, below_more}
use Rattle.std.specs.Prelude.{nat_eq}
use Rattle.std.proofs.lemmas.List.{drop_more, take_more, take_all, drop_all}
use Rattle.emp_ast.specs.declared.tree.Operator.{Operator}
use Rattle.emp_ast.specs.declared.tree.Operator.TheVariants.{Plus, Minus, Times, Over}
use Rattle.emp_ast.specs.declared.tree.Node.{Node}
use Rattle.emp_ast.specs.declared.tree.Node.TheVariants.{Number, Var, Neg, Add, Sub, Mul, Div, Power}
use Rattle.emp_ast.specs.Expression.{Expression, negated, joined, power, takes, joins, alters, first_of, expressions_from, pops, operands, has_one, is_postorder_from, is_postorder}
use Rattle.emp_form.specs.Form.{Form}
use Rattle.emp_form.specs.Expansion.{form, RootFits, IsPolynomial, expression_at}
use Rattle.emp_form.specs.Wide.{IsFree}
use Rattle.emp_expand.specs.Stands.{Stands}
use Rattle.emp_expand.specs.Joins.{NodeJoined}
use Rattle.emp_expand.specs.Powers.{NodeRaised}
use Rattle.emp_expand.specs.Expanding.{HasFault, RootGives, AllStand, rest_of, Applies, HasOperands, AllFree, Expands, Stops}
use Rattle.emp_expand.specs.declared.coefficients.Coefficients.{Coefficients}
use Rattle.emp_expand.specs.declared.products.NodeFault.{NodeFault}
use Rattle.emp_expand.specs.declared.products.NodeFault.TheVariants.{NoMemory, Degree, DivideByVariable, DivideByZero, Wide}
use Rattle.emp_expand.specs.declared.expand.ExpandFault.{ExpandFault}

-- ---- one node
pub join_gives : (op : Operator) (e f : Expression) (r : Result Coefficients NodeFault) → NodeJoined op (form e) (form f) r → RootGives (joined op e f) r
join_gives op e f (Ok c) h = (h.0, (h.1, h.2))
join_gives op e f (Err NoMemory) h = tt
join_gives op e f (Err Degree) h = h
join_gives op e f (Err DivideByVariable) h = h
join_gives op e f (Err DivideByZero) h = h
join_gives op e f (Err Wide) h = h

pub power_gives : (e : Expression) (n : ℕ) (r : Result Coefficients NodeFault) → NodeRaised (form e) n r → RootGives (power e n) r
power_gives e n (Ok c) h = (h.0, (h.1, h.2))
power_gives e n (Err NoMemory) h = tt
power_gives e n (Err Degree) h = h
power_gives e n (Err DivideByVariable) h = h
power_gives e n (Err DivideByZero) h = h
power_gives e n (Err Wide) h = h

-- what a step makes of the expressions that are left
abbrev pub AppliesBy : (List Expression → List Expression) → List Coefficients → Result Coefficients NodeFault → List Coefficients → Type 0
AppliesBy k s r t = (es : List Expression) → AllStand s es → RootGives (first_of (k es)) r × AllStand t (rest_of (k es)) × (RootFits (first_of (k es)) → IsPolynomial (first_of (k es))) × (k es ≡ first_of (k es) ∷ rest_of (k es))

pub leaf_applies : (e : Expression) (s : List Coefficients) (r : Result Coefficients NodeFault) → IsPolynomial e → RootGives e r → AppliesBy (λ es. e ∷ es) s r s
leaf_applies e s r p g es h = (g, h, (λ fit. p), refl)

pub alter_applies : (f : Expression → Expression) (s t : List Coefficients) (x : Coefficients) (r : Result Coefficients NodeFault) → s ≡ x ∷ t → ((e : Expression) → Stands x (form e) → RootGives (f e) r) → ((e : Expression) → IsPolynomial e → RootFits (f e) → IsPolynomial (f e)) → AppliesBy (alters f) s r t
alter_applies f s t x r e g p es h = go es (subst (λ s. AllStand s es) e h)
  where
    go : (es : List Expression) → AllStand (x ∷ t) es → RootGives (first_of (alters f es)) r × AllStand t (rest_of (alters f es)) × (RootFits (first_of (alters f es)) → IsPolynomial (first_of (alters f es))) × (alters f es ≡ first_of (alters f es) ∷ rest_of (alters f es))
    go [] h = absurd h
    go (e ∷ es) h = (g e h.0, h.2, p e h.1, refl)

pub join_applies : (op : Operator) (s m t : List Coefficients) (x y : Coefficients) (r : Result Coefficients NodeFault) → s ≡ y ∷ m → m ≡ x ∷ t → ((f g : Form) → Stands x f → Stands y g → NodeJoined op f g r) → AppliesBy (joins op) s r t
join_applies op s m t x y r a b g es h = go es (subst (λ s. AllStand s es) (a ∙ ap (λ m. y ∷ m) b) h)
  where
    go : (es : List Expression) → AllStand (y ∷ x ∷ t) es → RootGives (first_of (joins op es)) r × AllStand t (rest_of (joins op es)) × (RootFits (first_of (joins op es)) → IsPolynomial (first_of (joins op es))) × (joins op es ≡ first_of (joins op es) ∷ rest_of (joins op es))
    go [] h = absurd h
    go (f ∷ []) h = absurd h.2
    go (f ∷ e ∷ es) h = (join_gives op e f r (g (form e) (form f) h.2.0 h.0), h.2.2, (λ fit. (fit, h.2.1, h.1)), refl)

-- ---- the expressions along the list
expressions_append : (es : List Expression) (xs : List Node) (n : Node) → expressions_from es (xs ++ n ∷ []) ≡ takes n (expressions_from es xs)
expressions_append es [] n = refl
expressions_append es (x ∷ xs) n = expressions_append (takes x es) xs n

expressions_more : (nodes : List Node) (k : ℕ) (n : Node) → k < length nodes → get_or nodes k n ≡ n → expressions_from [] (take (k + 1) nodes) ≡ takes n (expressions_from [] (take k nodes))
expressions_more nodes k n h e = ap (λ xs. expressions_from [] xs) (take_more nodes k n h ∙ ap (λ m. take k nodes ++ m ∷ []) e) ∙ expressions_append [] (take k nodes) n

-- ---- postorder
both_left : (a b : Bool) → (a && b) ≡ true → a ≡ true
both_left true b h = refl
both_left false b h = h

both_right : (a b : Bool) → (a && b) ≡ true → b ≡ true
both_right true b h = h
both_right false b h = absurd (no h)
  where
    no : false ≡ true → ⊥
    no e = cc

no_false : false ≡ true → ⊥
no_false e = cc

false_right : (a : Bool) → (a && false) ≡ true → ⊥
false_right a h = no_false (both_right a false h)

has_operands : (n : Node) (roots : List ℕ) (at : ℕ) → (pops (operands n) at roots).1 ≡ true → HasOperands (length roots) n
has_operands (Number f) roots at h = tt
has_operands (Var v) roots at h = tt
has_operands (Neg a) [] at h = absurd (no_false h)
has_operands (Neg a) (r ∷ roots) at h = omega arith
has_operands (Add a b) [] at h = absurd (no_false h)
has_operands (Add a b) (r ∷ []) at h = absurd (false_right (nat_eq b r) h)
has_operands (Add a b) (r ∷ q ∷ roots) at h = omega arith
has_operands (Sub a b) [] at h = absurd (no_false h)
has_operands (Sub a b) (r ∷ []) at h = absurd (false_right (nat_eq b r) h)
has_operands (Sub a b) (r ∷ q ∷ roots) at h = omega arith
has_operands (Mul a b) [] at h = absurd (no_false h)
has_operands (Mul a b) (r ∷ []) at h = absurd (false_right (nat_eq b r) h)
has_operands (Mul a b) (r ∷ q ∷ roots) at h = omega arith
has_operands (Div a b) [] at h = absurd (no_false h)
has_operands (Div a b) (r ∷ []) at h = absurd (false_right (nat_eq b r) h)
has_operands (Div a b) (r ∷ q ∷ roots) at h = omega arith
has_operands (Power a m) [] at h = absurd (no_false h)
has_operands (Power a m) (r ∷ roots) at h = omega arith

-- with no operand to take, one root more
one_root_more : (roots : List ℕ) (at : ℕ) → length (pops [] at roots).0 ≡ length roots + 1
one_root_more [] at = refl
one_root_more (r ∷ roots) at = omega arith

altered_count : (f : Expression → Expression) (a at : ℕ) (roots : List ℕ) (es : List Expression) → length roots ≡ length es → (pops (a ∷ []) at roots).1 ≡ true → length (pops (a ∷ []) at roots).0 ≡ length (alters f es)
altered_count f a at [] es l h = absurd (no_false h)
altered_count f a at (r ∷ roots) [] l h = absurd (omega arith)
altered_count f a at (r ∷ roots) (e ∷ es) l h = one_root_more roots at ∙ omega arith

joined_count : (op : Operator) (a b at : ℕ) (roots : List ℕ) (es : List Expression) → length roots ≡ length es → (pops (b ∷ a ∷ []) at roots).1 ≡ true → length (pops (b ∷ a ∷ []) at roots).0 ≡ length (joins op es)
joined_count op a b at [] es l h = absurd (no_false h)
joined_count op a b at (r ∷ []) es l h = absurd (false_right (nat_eq b r) h)
joined_count op a b at (r ∷ q ∷ roots) [] l h = absurd (omega arith)
joined_count op a b at (r ∷ q ∷ roots) (e ∷ []) l h = absurd (omega arith)
joined_count op a b at (r ∷ q ∷ roots) (f ∷ e ∷ es) l h = one_root_more roots at ∙ omega arith

count_more : (n : Node) (at : ℕ) (roots : List ℕ) (es : List Expression) → length roots ≡ length es → (pops (operands n) at roots).1 ≡ true → length (pops (operands n) at roots).0 ≡ length (takes n es)
count_more (Number f) at roots es l h = one_root_more roots at ∙ omega arith
count_more (Var v) at roots es l h = one_root_more roots at ∙ omega arith
count_more (Neg a) at roots es l h = altered_count negated a at roots es l h
count_more (Add a b) at roots es l h = joined_count Plus a b at roots es l h
count_more (Sub a b) at roots es l h = joined_count Minus a b at roots es l h
count_more (Mul a b) at roots es l h = joined_count Times a b at roots es l h
count_more (Div a b) at roots es l h = joined_count Over a b at roots es l h
count_more (Power a m) at roots es l h = altered_count (λ e. power e m) a at roots es l h

stand-length : (s : List Coefficients) (es : List Expression) → AllStand s es → length s ≡ length es
stand-length [] [] h = refl
stand-length [] (e ∷ es) h = absurd h
stand-length (c ∷ s) [] h = absurd h
stand-length (c ∷ s) (e ∷ es) h = ap (λ n. suc n) (stand-length s es h.2)

-- ---- the loop: the first k nodes have no fault, and the stack stands for the expressions that they leave
pub record Expanded (s : List Coefficients) (nodes : List Node) (k : ℕ) : Type 0 where
  pub free : AllFree nodes k
  pub stand : AllStand s (expressions_from [] (take k nodes))
  pub roots : List ℕ
  pub count : length roots ≡ length (expressions_from [] (take k nodes))
  pub rest : is_postorder_from roots k (drop k nodes) ≡ true

rest_from : (nodes : List Node) (k : ℕ) (n : Node) (roots : List ℕ) → k < length nodes → get_or nodes k n ≡ n → is_postorder_from roots k (drop k nodes) ≡ true → ((pops (operands n) k roots).1 && is_postorder_from (pops (operands n) k roots).0 (k + 1) (drop (k + 1) nodes)) ≡ true
rest_from nodes k n roots h e p = subst (λ ns. is_postorder_from roots k ns ≡ true) (drop_more nodes k n h ∙ ap (λ m. m ∷ drop (k + 1) nodes) e) p

pub expanded_none : (nodes : List Node) → is_postorder nodes ≡ true → Expanded [] nodes 0
expanded_none nodes p = record { free = λ j l. absurd (omega arith); stand = tt; roots = []; count = refl; rest = p }

pub expanded_operands : (s : List Coefficients) (nodes : List Node) (k : ℕ) (n : Node) → Expanded s nodes k → k < length nodes → get_or nodes k n ≡ n → HasOperands (length s) n
expanded_operands s nodes k n x h e =
    let p = rest_from nodes k n x.roots h e x.rest in
    subst (λ m. HasOperands m n) (x.count ∙ sym (stand-length s (expressions_from [] (take k nodes)) x.stand)) (has_operands n x.roots k (both_left (pops (operands n) k x.roots).1 (is_postorder_from (pops (operands n) k x.roots).0 (k + 1) (drop (k + 1) nodes)) p))

pub expanded_more : (s t u : List Coefficients) (nodes : List Node) (k : ℕ) (n : Node) (v : Coefficients) → Expanded s nodes k → k < length nodes → get_or nodes k n ≡ n → Applies s n (Ok v) t → u ≡ v ∷ t → Expanded u nodes (k + 1)
expanded_more s t u nodes k n v x h e a p =
    let es = expressions_from [] (take k nodes) in
    let g = a es x.stand in
    let more = expressions_more nodes k n h e in
    let q = rest_from nodes k n x.roots h e x.rest in
    let one = both_left (pops (operands n) k x.roots).1 (is_postorder_from (pops (operands n) k x.roots).0 (k + 1) (drop (k + 1) nodes)) q in
    record {
      free = below_more (λ j. IsFree (expression_at nodes j)) k x.free (subst (λ es. IsFree (first_of es)) (sym more) g.0.1);
      stand = subst₂ (λ u es. AllStand u es) (sym p) (sym (more ∙ g.3)) (g.0.0, g.2 g.0.1.0, g.1);
      roots = (pops (operands n) k x.roots).0;
      count = count_more n k x.roots es x.count one ∙ ap (λ es. length es) (sym more);
      rest = both_right (pops (operands n) k x.roots).1 (is_postorder_from (pops (operands n) k x.roots).0 (k + 1) (drop (k + 1) nodes)) q;
    }

pub expanded_fault : (s t : List Coefficients) (nodes : List Node) (k : ℕ) (n : Node) (f : NodeFault) (x : ExpandFault) → Expanded s nodes k → k < length nodes → get_or nodes k n ≡ n → Applies s n (Err f) t → x.at ≡ k → x.fault ≡ f → Stops nodes x
expanded_fault s t nodes k n f y x h e a at fault =
    let more = expressions_more nodes k n h e in
    record {
      within = subst (λ j. j < length nodes) (sym at) h;
      before = subst (λ j. AllFree nodes j) (sym at) x.free;
      fault = subst₂ (λ j f. HasFault (expression_at nodes j) f) (sym at) (sym fault) (subst (λ es. HasFault (first_of es) f) (sym more) (a (expressions_from [] (take k nodes)) x.stand).0);
    }

only_one : (roots : List ℕ) → has_one roots ≡ true → length roots ≡ 1
only_one [] h = absurd (no_false h)
only_one (r ∷ []) h = refl
only_one (r ∷ q ∷ roots) h = absurd (no_false h)

at_end : (s : List Coefficients) (nodes : List Node) (k : ℕ) → Expanded s nodes k → length nodes ≤ k → length (expressions_from [] nodes) ≡ 1
at_end s nodes k x h =
    ap (λ xs. length (expressions_from [] xs)) (sym (take_all k nodes h)) ∙ (sym x.count ∙ only_one x.roots (subst (λ ns. is_postorder_from x.roots k ns ≡ true) (drop_all k nodes h) x.rest))

first_stands : (c : Coefficients) (s : List Coefficients) (es : List Expression) → AllStand (c ∷ s) es → Stands c (form (first_of es)) × IsPolynomial (first_of es)
first_stands c s [] h = absurd h
first_stands c s (e ∷ es) h = (h.0, h.1)

pub expanded_all : (s t : List Coefficients) (nodes : List Node) (k : ℕ) (v : Coefficients) → Expanded s nodes k → length nodes ≤ k → k ≤ length nodes → s ≡ v ∷ t → Expands nodes v
expanded_all s t nodes k v x h l p =
    let all = first_stands v t (expressions_from [] nodes) (subst₂ (λ s xs. AllStand s (expressions_from [] xs)) p (take_all k nodes h) x.stand) in
    let same : k ≡ length nodes = omega arith in
    record { free = subst (λ j. AllFree nodes j) same x.free; polynomial = all.1; stands = all.0 }

pub expanded_some : (s : List Coefficients) (nodes : List Node) (k : ℕ) → Expanded s nodes k → length nodes ≤ k → 0 < length s
expanded_some s nodes k x h =
    let one = at_end s nodes k x h in
    let count = stand-length s (expressions_from [] nodes) (subst (λ xs. AllStand s (expressions_from [] xs)) (take_all k nodes h) x.stand) in
    omega arith
