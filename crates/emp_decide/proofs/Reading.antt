-- What the code that reads dictionaries needs.
use Rattle.std.proofs.Common.{◌≡◌, ◌≢◌, ℕ, suc, ◌+◌, ◌-◌, ◌<◌, ◌⊎◌, inl, inr, ℤ, pos, ◌*ℤ◌, List, [], ◌∷◌, ◌++◌, length, get_or, replicate, All, Option, Some, arith, refl, sym, ap, subst, ◌∙◌}
use Rattle.std.proofs.lemmas.List.{replicate_more, length-replicate, get_or_append_left, length-append}
use Rattle.std.proofs.lemmas.List.Elements.{All-set}
use Rattle.std.proofs.lemmas.Bool.{cases_eq}
use Rattle.std.proofs.Math.Seq.{get_or-append_seam}
use Rattle.emp_num.specs.Exact.{IsNarrow}
use Rattle.emp_num.specs.FracSpec.{IsQuotient}
use Rattle.emp_num.specs.Ratio.{Ratio}
use Rattle.emp_num.specs.declared.frac.Frac.{Frac}
use Rattle.emp_dict.specs.declared.label.Label.{Label}
use Rattle.emp_dict.specs.declared.label.Label.TheVariants.{Base, Quantity, Objective}
use Rattle.emp_dict.specs.Dictionary.{Dictionary, IsSound, IsLabel, row_label, column_label, line_at, cell_at, row_of}
use Rattle.emp_line.specs.Lines.{IsLine}
use Rattle.emp_step.proofs.Labels.{row_found}
use Rattle.emp_step.proofs.Marks.{quantity_of}
use Rattle.emp_decide.specs.Reads.{put, spread, value_by, value_of}
use Rattle.emp_decide.specs.Rows.{HasPlace}
use Rattle.emp_decide.proofs.Factors.{length-put, length-spread}
use Rattle.emp_decide.proofs.Rows.{line_is}

-- ---- lists
pub zeros_more : (out : List ℤ) (n : ℕ) → out ≡ replicate n (pos 0) → out ++ pos 0 ∷ [] ≡ replicate (n + 1) (pos 0)
zeros_more out n e = ap (λ ls. ls ++ pos 0 ∷ []) e ∙ replicate_more n (pos 0)

pub ruleset zeroing = (zeros_more)

-- the first n ratios as fractions
pub record Read (n : ℕ) (at : ℕ → Ratio) (out : List Frac) : Type 0 where
  pub count : length out ≡ n
  pub values : (b : ℕ) (f : Frac) → b < n → IsQuotient (get_or out b f) (at b).top (at b).bottom

pub read_none : (at : ℕ → Ratio) → Read 0 at []
read_none at = record { count = refl; values = λ b f h. absurd (omega arith) }

pub read_more : (n : ℕ) (at : ℕ → Ratio) (out : List Frac) (v : Frac) → Read n at out → IsQuotient v (at n).top (at n).bottom → Read (n + 1) at (out ++ v ∷ [])
read_more n at out v r q = record { count = length-append out (v ∷ []) ∙ ap (λ k. k + 1) r.count; values = λ b f h. go b f h (cases_eq b n) }
  where
    go : (b : ℕ) (f : Frac) → b < n + 1 → (b ≡ n) ⊎ (b ≢ n) → IsQuotient (get_or (out ++ v ∷ []) b f) (at b).top (at b).bottom
    go b f h (inl e) =
        let same : get_or (out ++ v ∷ []) b f ≡ v = ap (λ k. get_or (out ++ v ∷ []) k f) (e ∙ sym r.count) ∙ get_or-append_seam out v [] f in
        subst (λ k. IsQuotient (get_or (out ++ v ∷ []) b f) (at k).top (at k).bottom) (sym e) (subst (λ g. IsQuotient g (at n).top (at n).bottom) (sym same) q)
    go b f h (inr k) =
        let below : b < n = omega arith in
        subst (λ g. IsQuotient g (at b).top (at b).bottom) (sym (get_or_append_left out (v ∷ []) f b (let c = r.count in omega arith))) (r.values b f below)

-- ---- places
has_place : (d : Dictionary) (w : Label) → IsLabel (length d.columns) (length d.marks) (length d.rows) w → (n : ℕ) → n ≡ length d.marks → HasPlace n w
has_place d (Base b) h n e = tt
has_place d (Quantity k) h n e = let q = quantity_of (length d.columns) (length d.marks) (length d.rows) k h in (q.0, let m = q.1 in omega arith)
has_place d Objective h n e = tt

pub row_place : (d : Dictionary) → IsSound d → (i n : ℕ) → i < length d.rows → n ≡ length d.marks → HasPlace n (row_label d i)
row_place d s i n b e = has_place d (row_label d i) (s.row_labels i b) n e

pub column_place : (d : Dictionary) → IsSound d → (j n : ℕ) → j < length d.columns → n ≡ length d.marks → HasPlace n (column_label d j)
column_place d s j n b e = has_place d (column_label d j) (s.column_labels j b) n e

pub put_narrow : (w : Label) (z : ℤ) (fs : List ℤ) → All IsNarrow fs → IsNarrow z → All IsNarrow (put w z fs)
put_narrow (Base b) z fs h n = h
put_narrow (Quantity k) z fs h n = All-set IsNarrow fs (k - 1) z n h
put_narrow Objective z fs h n = h

-- ---- rows that are found
pub found_below : (d : Dictionary) (w : Label) (o : Option ℕ) (r : ℕ) → o ≡ row_of d w → o ≡ Some r → r < length d.rows
found_below d w o r e q = (row_found d w r (sym e ∙ q)).below

pub denom_positive : (d : Dictionary) → IsSound d → (r : ℕ) → r < length d.rows → IsLine (length d.columns) (line_at d r)
denom_positive = line_is

-- ---- values and rates
pub value_found : (d : Dictionary) (w : Label) (o : Option ℕ) → o ≡ row_of d w → value_of d w ≡ value_by d o
value_found d w o e = ap (value_by d) (sym e)

-- ---- factors, column by column
pub spread_place : (d : Dictionary) (r : ℕ) (across own : ℤ) (m : ℕ) (out : List ℤ) (w : Label) → IsSound d → out ≡ spread d r across m (put (row_label d r) own (replicate (length d.marks) (pos 0))) → m < length d.columns → w ≡ column_label d m → HasPlace (length out) w
spread_place d r across own m out w s e b q =
    let count : length out ≡ length d.marks = ap length e ∙ (length-spread d r across m (put (row_label d r) own (replicate (length d.marks) (pos 0))) ∙ (length-put (row_label d r) own (replicate (length d.marks) (pos 0)) ∙ length-replicate (length d.marks) (pos 0))) in
    subst (λ v. HasPlace (length out) v) (sym q) (column_place d s m (length out) b count)

pub spread_more : (d : Dictionary) (r : ℕ) (across : ℤ) (m : ℕ) (first out new : List ℤ) (w : Label) (z : ℤ) → out ≡ spread d r across m first → new ≡ put w z out → w ≡ column_label d m → z ≡ across *ℤ cell_at d r m → new ≡ spread d r across (m + 1) first
spread_more d r across m first out new w z e n q c =
    let next : m + 1 ≡ suc m = omega arith in
    n ∙ (ap (λ v. put v z out) q ∙ (ap (λ y. put (column_label d m) y out) c ∙ (ap (put (column_label d m) (across *ℤ cell_at d r m)) e ∙ ap (λ k. spread d r across k first) (sym next))))

pub put_all_narrow : (w : Label) (z : ℤ) (fs new : List ℤ) → All IsNarrow fs → IsNarrow z → new ≡ put w z fs → All IsNarrow new
put_all_narrow w z fs new h n e = subst (All IsNarrow) (sym e) (put_narrow w z fs h n)
