-- From the nodes of a tree to the text of its expression.
use Rattle.std.proofs.Common.{◌≡◌, ℕ, zero, suc, ◌+◌, ◌-◌, ◌<◌, ◌≤◌, Bool, true, false, not, List, [], ◌∷◌, ◌++◌, map, length, take, drop, get_or, codes, decimal, arith, refl, sym, ap, subst, ◌∙◌, append_assoc, append-nil, slice_index_or}
use Rattle.std.proofs.lemmas.List.{take-append-drop, take_more, get_or-map}
use Rattle.emp_ast.specs.declared.model.Variable.{Variable}
use Rattle.emp_ast.specs.declared.tree.Operator.{Operator}
use Rattle.emp_ast.specs.declared.tree.Operator.TheVariants.{Plus, Minus, Times, Over}
use Rattle.emp_ast.specs.declared.tree.Node.{Node}
use Rattle.emp_ast.specs.declared.tree.Node.TheVariants.{Number, Var, Neg, Power}
use Rattle.emp_ast.specs.declared.tree.Tree.{Tree}
use Rattle.emp_ast.specs.Expression.{Expression, number, variable, negated, joined, power}
use Rattle.emp_ast.specs.Nodes.{size, root, join_node, nodes_from}
use Rattle.gms_print.specs.declared.shape.Shape.{Shape}
use Rattle.gms_print.specs.declared.shape.Shape.TheVariants.{Base, Raised, Product, Sum}
use Rattle.gms_print.specs.declared.mark.Mark.{Mark}
use Rattle.gms_print.specs.Canonical.{wrapped, is_sum, is_product, is_base, is_left_wrapped, is_right_wrapped, operator_text, power_text, Prints}
use Rattle.gms_print.specs.Canonical.Prints.{prints_number, prints_variable, prints_negated, prints_joined, prints_power}
use Rattle.gms_print.specs.Decimals.{Adds}
use Rattle.gms_print.specs.Marks.{is_sum_shape, is_product_shape, is_base_shape, joined_shape, raised_shape, wraps_left, wraps_right, shape_of, Page, page, Ends, Negates, Joins, Raises, Steps, names_of, HasDecimals, IsPrintable, PrintsTree}

-- ---- names
pub name_there : (vs : List Variable) (v : Variable) (at : ℕ) → at < length vs → v ≡ get_or vs at v → get_or (names_of vs) at [] ≡ v.name
name_there vs v at h e = get_or-map (λ v. v.name) vs at v [] h ∙ ap (λ v. v.name) (sym e)

pub name_none : (vs : List Variable) (at : ℕ) → length vs ≤ at → get_or (names_of vs) at [] ≡ []
name_none [] at h = refl
name_none (v ∷ vs) zero h = absurd (omega arith)
name_none (v ∷ vs) (suc at) h = name_none vs at (omega arith)

pub ruleset naming = (name_there, name_none, append-nil)

-- ---- powers
pub raised_base : (from n : ℕ) (f : Bool) (old : List ℕ) → f ≡ true → old ++ codes "**" ++ decimal n ≡ take from old ++ power_text f (drop from old) n
raised_base from n false old e = cc
raised_base from n true old e =
    ap (λ t. t ++ codes "**" ++ decimal n) (sym (take-append-drop from old))
    ∙ (ap (λ t. t ++ decimal n) (append_assoc (take from old) (drop from old) (codes "**")) ∙ append_assoc (take from old) (drop from old ++ codes "**") (decimal n))

pub raised_call : (from n : ℕ) (f : Bool) (old : List ℕ) → f ≡ false → (take from old ++ codes "power(" ++ drop from old) ++ codes "," ++ decimal n ++ codes ")" ≡ take from old ++ power_text f (drop from old) n
raised_call from n true old e = cc
raised_call from n false old e = simp append_assoc

pub ruleset powers = (raised_base, raised_call)

-- ---- shapes
sum_is : (e : Expression) → is_sum e ≡ is_sum_shape (shape_of e)
sum_is (number f) = refl
sum_is (variable k) = refl
sum_is (negated e) = refl
sum_is (joined Plus e f) = refl
sum_is (joined Minus e f) = refl
sum_is (joined Times e f) = refl
sum_is (joined Over e f) = refl
sum_is (power e n) = raised_no_sum (shape_of e)
  where
    raised_no_sum : (s : Shape) → false ≡ is_sum_shape (raised_shape s)
    raised_no_sum Base = refl
    raised_no_sum Raised = refl
    raised_no_sum Product = refl
    raised_no_sum Sum = refl

product_is : (e : Expression) → is_product e ≡ is_product_shape (shape_of e)
product_is (number f) = refl
product_is (variable k) = refl
product_is (negated e) = refl
product_is (joined Plus e f) = refl
product_is (joined Minus e f) = refl
product_is (joined Times e f) = refl
product_is (joined Over e f) = refl
product_is (power e n) = raised_no_product (shape_of e)
  where
    raised_no_product : (s : Shape) → false ≡ is_product_shape (raised_shape s)
    raised_no_product Base = refl
    raised_no_product Raised = refl
    raised_no_product Product = refl
    raised_no_product Sum = refl

base_is : (e : Expression) → is_base e ≡ is_base_shape (shape_of e)
base_is (number f) = refl
base_is (variable k) = refl
base_is (negated e) = refl
base_is (joined Plus e f) = refl
base_is (joined Minus e f) = refl
base_is (joined Times e f) = refl
base_is (joined Over e f) = refl
base_is (power e n) = ap not (base_is e) ∙ raised_base_is (shape_of e)
  where
    raised_base_is : (s : Shape) → not (is_base_shape s) ≡ is_base_shape (raised_shape s)
    raised_base_is Base = refl
    raised_base_is Raised = refl
    raised_base_is Product = refl
    raised_base_is Sum = refl

left_is : (op : Operator) (e : Expression) → is_left_wrapped op e ≡ wraps_left op (shape_of e)
left_is Plus e = refl
left_is Minus e = refl
left_is Times e = sum_is e
left_is Over e = sum_is e

right_is : (op : Operator) (e : Expression) → is_right_wrapped op e ≡ wraps_right op (shape_of e)
right_is Plus e = sum_is e
right_is Minus e = sum_is e
right_is Times e = rw (sum_is e, product_is e) refl
right_is Over e = rw (sum_is e, product_is e) refl

-- ---- the nodes of an expression
abbrev pub Runs : List (List ℕ) → List Node → Page → Page → Type 0
Runs names [] s t = s ≡ t
Runs names (n ∷ ns) s t = (u : Page) × Steps names n s u × Runs names ns u t

pub runs_more : (names : List (List ℕ)) (ns : List Node) (n : Node) (s t u : Page) → Runs names ns s t → Steps names n t u → Runs names (ns ++ n ∷ []) s u
runs_more names [] n s t u e h = (u, subst (λ x. Steps names n x u) (sym e) h, refl)
runs_more names (m ∷ ns) n s t u r h = (r.0, r.1, runs_more names ns n r.0 t u r.2 h)

runs_split : (names : List (List ℕ)) (ms ns : List Node) (s t : Page) → Runs names (ms ++ ns) s t → (u : Page) × Runs names ms s u × Runs names ns u t
runs_split names [] ns s t r = (s, refl, r)
runs_split names (m ∷ ms) ns s t r = let k = runs_split names ms ns r.0 t r.2 in (k.0, (r.0, r.1, k.1), k.2)

-- the page t is s and behind it the text of the expression
pub record Written (names : List (List ℕ)) (e : Expression) (s t : Page) : Type 0 where
  pub text : List ℕ
  pub prints : Prints names e text
  pub ends : Ends t s text (shape_of e)

last_step : (names : List (List ℕ)) (n : Node) (s t : Page) → Runs names (n ∷ []) s t → Steps names n s t
last_step names n s t r = subst (λ x. Steps names n s x) r.2 r.1

negated_written : (names : List (List ℕ)) (e : Expression) (s u t : Page) → Written names e s u → Negates u t → Written names (negated e) s t
negated_written names e s u t w h = record {
  text = codes "-" ++ wrapped (is_sum e) w.text;
  prints = prints_negated e w.text w.prints;
  ends = subst (λ f. Ends t s (codes "-" ++ wrapped f w.text) Sum) (sym (sum_is e)) (h s w.text (shape_of e) w.ends);
}

power_written : (names : List (List ℕ)) (e : Expression) (n : ℕ) (s u t : Page) → Written names e s u → Raises n u t → Written names (power e n) s t
power_written names e n s u t w h = record {
  text = power_text (is_base e) w.text n;
  prints = prints_power e n w.text w.prints;
  ends = subst (λ f. Ends t s (power_text f w.text n) (raised_shape (shape_of e))) (sym (base_is e)) (h s w.text (shape_of e) w.ends);
}

joined_written : (names : List (List ℕ)) (op : Operator) (e f : Expression) (s m u t : Page) → Written names e s m → Written names f m u → Joins op u t → Written names (joined op e f) s t
joined_written names op e f s m u t v w h = record {
  text = wrapped (is_left_wrapped op e) v.text ++ operator_text op ++ wrapped (is_right_wrapped op f) w.text;
  prints = prints_joined op e f v.text w.text v.prints w.prints;
  ends =
      subst (λ x. Ends t s (wrapped x v.text ++ operator_text op ++ wrapped (is_right_wrapped op f) w.text) (joined_shape op)) (sym (left_is op e))
      (subst (λ x. Ends t s (wrapped (wraps_left op (shape_of e)) v.text ++ operator_text op ++ wrapped x w.text) (joined_shape op)) (sym (right_is op f))
      (h s m v.text w.text (shape_of e) (shape_of f) v.ends w.ends));
}

join_step : (names : List (List ℕ)) (op : Operator) (a b : ℕ) (s t : Page) → Steps names (join_node op a b) s t → Joins op s t
join_step names Plus a b s t h = h
join_step names Minus a b s t h = h
join_step names Times a b s t h = h
join_step names Over a b s t h = h

pub written : (names : List (List ℕ)) (e : Expression) (before : ℕ) (s t : Page) → HasDecimals e → Runs names (nodes_from before e) s t → Written names e s t
written names (number f) before s t d r =
    let h = last_step names (Number f) s t r d in
    record { text = h.text; prints = prints_number f h.text h.numeral; ends = h.ends }
written names (variable k) before s t d r = record {
  text = slice_index_or names k [];
  prints = prints_variable k;
  ends = last_step names (Var (record { at = k })) s t r;
}
written names (negated e) before s t d r =
    let k = runs_split names (nodes_from before e) (Neg (root before e) ∷ []) s t r in
    negated_written names e s k.0 t (written names e before s k.0 d k.1) (last_step names (Neg (root before e)) k.0 t k.2)
written names (joined op e f) before s t d r =
    let n = join_node op (root before e) (root (before + size e) f) in
    let k = runs_split names (nodes_from before e ++ nodes_from (before + size e) f) (n ∷ []) s t r in
    let l = runs_split names (nodes_from before e) (nodes_from (before + size e) f) s k.0 k.1 in
    joined_written names op e f s l.0 k.0 t (written names e before s l.0 d.0 l.1) (written names f (before + size e) l.0 k.0 d.1 l.2) (join_step names op (root before e) (root (before + size e) f) k.0 t (last_step names n k.0 t k.2))
written names (power e n) before s t d r =
    let k = runs_split names (nodes_from before e) (Power (root before e) n ∷ []) s t r in
    power_written names e n s k.0 t (written names e before s k.0 d k.1) (last_step names (Power (root before e) n) k.0 t k.2)

pub tree_written : (names : List (List ℕ)) (t : Tree) (start out : List ℕ) (marks : List Mark) → Runs names t.nodes (page start []) (page out marks) → IsPrintable t → Adds (PrintsTree names t) start out
tree_written names t start out marks r h =
    let w = written names h.expression 0 (page start []) (page out marks) h.decimals (subst (λ ns. Runs names ns (page start []) (page out marks)) h.is r) in
    record { text = w.text; fact = record { expression = h.expression; is = h.is; prints = w.prints }; is = w.ends.is }

pub taken_run : (names : List (List ℕ)) (ns : List Node) (i : ℕ) (s t u : Page) (n : Node) → i < length ns → n ≡ get_or ns i n → Runs names (take i ns) s t → Steps names n t u → Runs names (take (i + 1) ns) s u
taken_run names ns i s t u n h e r k =
    subst (λ xs. Runs names xs s u) (sym (take_more ns i n h)) (runs_more names (take i ns) (get_or ns i n) s t u r (subst (λ x. Steps names x t u) e k))
