-- Quantities.
use Rattle.std.proofs.Common.{◌≡◌, inr, ℕ, ◌+◌, ◌<◌, ◌≤◌, List, [], ◌∷◌, ◌++◌, length, get_or, take, Some, None, Ok, Err, Result, refl, sym, ap, subst, ◌∙◌, arith, below_more}
use Rattle.std.specs.Prelude.{IfOk}
use Rattle.std.proofs.lemmas.List.{take_more, take_all, length_push, get_or_push, get_or_append_left}
use Rattle.std.proofs.lemmas.List.Elements.{All-nil, All-push}
use Rattle.emp_num.specs.declared.frac.Frac.{Frac}
use Rattle.emp_rows.specs.declared.affine.Affine.{Affine}
use Rattle.emp_rows.specs.Affine.{IsRow}
use Rattle.emp_rows.specs.Primitive.{made, FormedGives}
use Rattle.emp_rows.specs.declared.primitive.RowFault.{RowFault}
use Rattle.emp_rows.specs.declared.primitive.RowFault.TheVariants.{Wide, NoMemory}
use Rattle.emp_problem.specs.declared.problem.AgentProblem.{AgentProblem}
use Rattle.emp_kkt.specs.declared.asked.Item.{Item}
use Rattle.emp_kkt.specs.Cells.{CellGives, constant_of, AreCells}
use Rattle.emp_kkt.specs.Gives.{IsMadeOf, AreMadeOf}
use Rattle.emp_kkt.specs.Making.{RowGives, AreRows}

-- ---- all cells
pub cells_none : (pr : AgentProblem) (item : Item) → AreCells pr item 0 []
cells_none pr item = record { count = refl; each = λ at c h. absurd (omega arith) }

pub cells_more : (pr : AgentProblem) (item : Item) (n : ℕ) (out : List Frac) (c : Frac) → AreCells pr item n out → CellGives pr item n (Ok c) → AreCells pr item (n + 1) (out ++ c ∷ [])
cells_more pr item n out c f h = record {
  count = let e : length out ≡ n = f.count in length_push out c ∙ ap (λ k. k + 1) e;
  each = λ at d l. below_more (λ k. CellGives pr item k (Ok (get_or (out ++ c ∷ []) k d))) n
      (λ k b. subst (λ (x : Frac). CellGives pr item k (Ok x)) (sym (get_or_append_left out (c ∷ []) d k (let e : length out ≡ n = f.count in omega arith))) (f.each k d b))
      (subst (λ (x : Frac). CellGives pr item n (Ok x)) (sym (get_or_push out c d n f.count)) h)
      at l;
}

pub ruleset collecting = (cells_none, cells_more)

-- ---- a row
pub row_gives : (pr : AgentProblem) (n : ℕ) (item : Item) (cells : List Frac) (constant : Frac) (r : Result Affine RowFault) → AreCells pr item n cells → constant ≡ constant_of pr item → FormedGives (made cells constant) r → IfOk r (IsRow (length cells)) → RowGives pr n item r
row_gives pr n item cells constant (Ok r) f k g h = (record { cells = cells; are = f; made = subst (λ (c : Frac). made cells c ≡ Some r) k g }, subst (λ j. IsRow j r) f.count h)
row_gives pr n item cells constant (Err Wide) f k g h = inr (record { cells = cells; are = f; none = subst (λ (c : Frac). made cells c ≡ None) k g })
row_gives pr n item cells constant (Err NoMemory) f k g h = tt

-- ---- row by row
made_push : (pr : AgentProblem) (n : ℕ) (is : List Item) (rs : List Affine) (i : Item) (r : Affine) → AreMadeOf pr n is rs → IsMadeOf pr n i r → AreMadeOf pr n (is ++ i ∷ []) (rs ++ r ∷ [])
made_push pr n [] [] i r f h = (h, tt)
made_push pr n [] (x ∷ rs) i r f h = absurd f
made_push pr n (p ∷ is) [] i r f h = absurd f
made_push pr n (p ∷ is) (x ∷ rs) i r f h = (f.0, made_push pr n is rs i r f.1 h)

pub rows_none : (pr : AgentProblem) (n : ℕ) → AreRows pr n [] []
rows_none pr n = record { made = tt; each = All-nil (IsRow n) }

pub rows_more : (pr : AgentProblem) (n : ℕ) (items : List Item) (out : List Affine) (k : ℕ) (i : Item) (r : Affine) → AreRows pr n (take k items) out → k < length items → i ≡ get_or items k i → IsMadeOf pr n i r → IsRow n r → AreRows pr n (take (k + 1) items) (out ++ r ∷ [])
rows_more pr n items out k i r f h is g row =
    subst (λ js. AreRows pr n js (out ++ r ∷ [])) (ap (λ x. take k items ++ x ∷ []) is ∙ sym (take_more items k i h))
    (record { made = made_push pr n (take k items) out i r f.made g; each = All-push (IsRow n) out r f.each row })

pub rows_all : (pr : AgentProblem) (n : ℕ) (items : List Item) (out : List Affine) (k : ℕ) → AreRows pr n (take k items) out → length items ≤ k → AreRows pr n items out
rows_all pr n items out k f h = subst (λ us. AreRows pr n us out) (take_all k items h) f

pub ruleset forming = (rows_none, rows_more, rows_all)
