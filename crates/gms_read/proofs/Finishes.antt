-- What is left to see and to copy after the text.
use Rattle.std.proofs.Common.{◌≡◌, ℕ, ◌+◌, ◌<◌, ◌≤◌, true, false, cond, ℤ, Some, None, List, [], ◌∷◌, ◌++◌, length, take, drop, get_or, refl, sym, ap, ◌∙◌, arith, append_assoc, append-nil}
use Rattle.std.proofs.lemmas.Int.{ints}
use Rattle.std.specs.Prelude.{int_lt}
use Rattle.std.specs.Ordering.{is_gt}
use Rattle.std.specs.declared.cmp.Ordering.{Ordering}
use Rattle.std.specs.declared.cmp.Ordering.TheVariants.{Less, Equal, Greater}
use Rattle.std.proofs.lemmas.List.{drop_more, drop_all, take_more, take_all}
use Rattle.emp_num.specs.Orders.{IsOrder}
use Rattle.gms_read.specs.declared.draft.DraftEquation.{DraftEquation}
use Rattle.gms_read.specs.declared.draft.DraftVariable.{DraftVariable}
use Rattle.gms_grammar.specs.declared.fault.ModelFault.TheVariants.{Undefined, BoundsCross}
use Rattle.gms_read.specs.Rules.{is_none, undefined_from, finished_equation, finished_equations, crosses, crossing_from, end_of, finished_variables}

-- ---- equations
undefined_step : (es : List DraftEquation) (i : ℕ) (e : DraftEquation) → i < length es → e ≡ get_or es i e → undefined_from i (drop i es) ≡ cond (is_none e.definition) (Some (Undefined (record { at = i }) e.name)) (undefined_from (i + 1) (drop (i + 1) es))
undefined_step es i e h q = ap (undefined_from i) (drop_more es i e h ∙ ap (λ x. x ∷ drop (i + 1) es) (sym q))

pub undefined_on : (es : List DraftEquation) (i : ℕ) (e : DraftEquation) → i < length es → e ≡ get_or es i e → is_none e.definition ≡ false → undefined_from i (drop i es) ≡ undefined_from (i + 1) (drop (i + 1) es)
undefined_on es i e h q f = undefined_step es i e h q ∙ ap (λ b. cond b (Some (Undefined (record { at = i }) e.name)) (undefined_from (i + 1) (drop (i + 1) es))) f

pub undefined_here : (es : List DraftEquation) (i : ℕ) (e : DraftEquation) → i < length es → e ≡ get_or es i e → is_none e.definition ≡ true → undefined_from i (drop i es) ≡ Some (Undefined (record { at = i }) e.name)
undefined_here es i e h q t = undefined_step es i e h q ∙ ap (λ b. cond b (Some (Undefined (record { at = i }) e.name)) (undefined_from (i + 1) (drop (i + 1) es))) t

pub undefined_end : (es : List DraftEquation) (k i : ℕ) → length es ≤ i → undefined_from k (drop i es) ≡ None
undefined_end es k i h = ap (undefined_from k) (drop_all i es h)

pub ruleset defining = (undefined_on, undefined_here, undefined_end)

pub equations_push : (es : List DraftEquation) (e : DraftEquation) → finished_equations (es ++ e ∷ []) ≡ finished_equations es ++ finished_equation e.name e.definition
equations_push [] e = append-nil (finished_equation e.name e.definition)
equations_push (f ∷ es) e = ap (λ x. finished_equation f.name f.definition ++ x) (equations_push es e) ∙ sym (append_assoc (finished_equation f.name f.definition) (finished_equations es) (finished_equation e.name e.definition))

pub ruleset collecting = (equations_push, append_assoc, append-nil)

-- ---- bounds
pub above_is : (o : Ordering) (x y : ℤ) → IsOrder o x y → int_lt y x ≡ is_gt o
above_is Less x y h = grind (arith, ints)
above_is Equal x y h = grind (arith, ints)
above_is Greater x y h = grind (arith, ints)

pub ruleset ordering = (above_is)

crossing_step : (vs : List DraftVariable) (i : ℕ) (v : DraftVariable) → i < length vs → v ≡ get_or vs i v
    → crossing_from i (drop i vs) ≡ cond (crosses v.low v.high) (Some (BoundsCross (record { at = i }) v.name)) (crossing_from (i + 1) (drop (i + 1) vs))
crossing_step vs i v h q = ap (crossing_from i) (drop_more vs i v h ∙ ap (λ x. x ∷ drop (i + 1) vs) (sym q))

pub crossing_on : (vs : List DraftVariable) (i : ℕ) (v : DraftVariable) → i < length vs → v ≡ get_or vs i v → crosses v.low v.high ≡ false → crossing_from i (drop i vs) ≡ crossing_from (i + 1) (drop (i + 1) vs)
crossing_on vs i v h q f = crossing_step vs i v h q ∙ ap (λ b. cond b (Some (BoundsCross (record { at = i }) v.name)) (crossing_from (i + 1) (drop (i + 1) vs))) f

pub crossing_here : (vs : List DraftVariable) (i : ℕ) (v : DraftVariable) → i < length vs → v ≡ get_or vs i v → crosses v.low v.high ≡ true → crossing_from i (drop i vs) ≡ Some (BoundsCross (record { at = i }) v.name)
crossing_here vs i v h q t = crossing_step vs i v h q ∙ ap (λ b. cond b (Some (BoundsCross (record { at = i }) v.name)) (crossing_from (i + 1) (drop (i + 1) vs))) t

pub crossing_end : (vs : List DraftVariable) (k i : ℕ) → length vs ≤ i → crossing_from k (drop i vs) ≡ None
crossing_end vs k i h = ap (crossing_from k) (drop_all i vs h)

pub ruleset crossing = (crossing_on, crossing_here, crossing_end)

-- ---- variables
finished_push : (vs : List DraftVariable) (v : DraftVariable) → finished_variables (vs ++ v ∷ []) ≡ finished_variables vs ++ (record { name = v.name; low = end_of v.low; high = end_of v.high }) ∷ []
finished_push [] v = refl
finished_push (u ∷ vs) v = ap (λ x. (record { name = u.name; low = end_of u.low; high = end_of u.high }) ∷ x) (finished_push vs v)

pub finished_more : (vs : List DraftVariable) (i : ℕ) (v : DraftVariable) → i < length vs → v ≡ get_or vs i v → finished_variables (take (i + 1) vs) ≡ finished_variables (take i vs) ++ (record { name = v.name; low = end_of v.low; high = end_of v.high }) ∷ []
finished_more vs i v h q = ap finished_variables (take_more vs i v h ∙ ap (λ x. take i vs ++ x ∷ []) (sym q)) ∙ finished_push (take i vs) v

pub finished_all : (vs : List DraftVariable) (i : ℕ) → length vs ≤ i → finished_variables (take i vs) ≡ finished_variables vs
finished_all vs i h = ap finished_variables (take_all i vs h)

pub ruleset bounding = (finished_more, finished_all)
