-- Reports that grow line by line.
use Rattle.std.proofs.Common.{◌≡◌, ℕ, zero, suc, ◌+◌, ◌<◌, ◌≤◌, ◌⊎◌, inl, inr, ℤ, pos, List, [], ◌∷◌, ◌++◌, codes, length, take, get_or, map, arith, refl, sym, ap, subst, ◌∙◌, append_assoc, add-one}
use Rattle.std.proofs.lemmas.List.{append-nil, length-map}
use Rattle.std.specs.Fmt.{signed_decimal}
use Rattle.emp_num.specs.declared.frac.Frac.{Frac}
use Rattle.emp_ast.specs.declared.model.Variable.{Variable}
use Rattle.emp_report.specs.Report.{each_line, value_line, point_lines, step_line, step_lines, factors_text}

-- ---- factors
abbrev factor_text : ℤ → List ℕ
factor_text z = codes " " ++ signed_decimal z

factors_text-more : (zs : List ℤ) (i : ℕ) → i < length zs → factors_text (take (i + 1) zs) ≡ factors_text (take i zs) ++ factor_text (get_or zs i (pos 0))
factors_text-more [] i h = absurd (omega arith)
factors_text-more (z ∷ zs) zero h = append-nil (factor_text z)
factors_text-more (z ∷ zs) (suc i) h =
    ap (λ k. factors_text (take k (z ∷ zs))) (add-one (suc i))
    ∙ ap (λ k. factor_text z ++ factors_text (take k zs)) (sym (add-one i))
    ∙ ap (λ t. factor_text z ++ t) (factors_text-more zs i (omega arith))
    ∙ sym (append_assoc (factor_text z) (factors_text (take i zs)) (factor_text (get_or zs i (pos 0))))

-- one more factor
pub more_factors : (before out : List ℕ) (zs : List ℤ) (i : ℕ) → i < length zs → out ≡ before ++ factors_text (take i zs) → out ++ codes " " ++ signed_decimal (get_or zs i (pos 0)) ≡ before ++ factors_text (take (i + 1) zs)
more_factors before out zs i h e =
    append_assoc out (codes " ") (signed_decimal (get_or zs i (pos 0)))
    ∙ ap (λ t. t ++ factor_text (get_or zs i (pos 0))) e
    ∙ append_assoc before (factors_text (take i zs)) (factor_text (get_or zs i (pos 0)))
    ∙ ap (λ t. before ++ t) (sym (factors_text-more zs i h))

-- ---- a line for each variable
each_line-more : (line : List ℕ → Frac → List ℕ) (ns : List (List ℕ)) (fs : List Frac) (i : ℕ) (n : List ℕ) (f : Frac) → i < length ns → i < length fs → each_line line (take (i + 1) ns) (take (i + 1) fs) ≡ each_line line (take i ns) (take i fs) ++ line (get_or ns i n) (get_or fs i f)
each_line-more line [] fs i n f h k = absurd (omega arith)
each_line-more line (m ∷ ns) [] i n f h k = absurd (omega arith)
each_line-more line (m ∷ ns) (g ∷ fs) zero n f h k = append-nil (line m g)
each_line-more line (m ∷ ns) (g ∷ fs) (suc i) n f h k =
    ap (λ j. each_line line (take j (m ∷ ns)) (take j (g ∷ fs))) (add-one (suc i))
    ∙ ap (λ j. line m g ++ each_line line (take j ns) (take j fs)) (sym (add-one i))
    ∙ ap (λ t. line m g ++ t) (each_line-more line ns fs i n f (omega arith) (omega arith))
    ∙ sym (append_assoc (line m g) (each_line line (take i ns) (take i fs)) (line (get_or ns i n) (get_or fs i f)))

-- the name and the value of the variable at a place
named_at : (vs : List Variable) (i : ℕ) (v : Variable) → i < length vs → get_or (map (λ v. v.name) vs) i v.name ≡ (get_or vs i v).name
named_at [] i v h = absurd (omega arith)
named_at (w ∷ vs) zero v h = refl
named_at (w ∷ vs) (suc i) v h = named_at vs i v (omega arith)

-- one more line
more_lines : (line : List ℕ → Frac → List ℕ) (before out : List ℕ) (vs : List Variable) (fs : List Frac) (i : ℕ) (v : Variable) (f : Frac) → i < length vs → i < length fs → out ≡ before ++ each_line line (take i (map (λ v. v.name) vs)) (take i fs) → out ++ line (get_or vs i v).name (get_or fs i f) ≡ before ++ each_line line (take (i + 1) (map (λ v. v.name) vs)) (take (i + 1) fs)
more_lines line before out vs fs i v f h k e =
    subst (λ n. out ++ line n (get_or fs i f) ≡ before ++ each_line line (take (i + 1) (map (λ v. v.name) vs)) (take (i + 1) fs)) (named_at vs i v h)
    (ap (λ t. t ++ line (get_or (map (λ v. v.name) vs) i v.name) (get_or fs i f)) e
    ∙ append_assoc before (each_line line (take i (map (λ v. v.name) vs)) (take i fs)) (line (get_or (map (λ v. v.name) vs) i v.name) (get_or fs i f))
    ∙ ap (λ t. before ++ t) (sym (each_line-more line (map (λ v. v.name) vs) fs i v.name f (subst (λ n. i < n) (sym (length-map vs (λ v. v.name))) h) k)))

-- the lines end with the shorter of the two lists
all_lines : (line : List ℕ → Frac → List ℕ) (ns : List (List ℕ)) (fs : List Frac) (i : ℕ) → (length ns ≤ i) ⊎ (length fs ≤ i) → each_line line (take i ns) (take i fs) ≡ each_line line ns fs
all_lines line [] fs zero h = refl
all_lines line [] fs (suc i) h = refl
all_lines line (m ∷ ns) [] zero h = refl
all_lines line (m ∷ ns) [] (suc i) h = refl
all_lines line (m ∷ ns) (g ∷ fs) zero h = absurd (omega arith)
all_lines line (m ∷ ns) (g ∷ fs) (suc i) h = ap (λ t. line m g ++ t) (all_lines line ns fs i (shorter h))
  where
    shorter : (length (m ∷ ns) ≤ suc i) ⊎ (length (g ∷ fs) ≤ suc i) → (length ns ≤ i) ⊎ (length fs ≤ i)
    shorter (inl p) = inl (omega arith)
    shorter (inr p) = inr (omega arith)

lines_end : (line : List ℕ → Frac → List ℕ) (vs : List Variable) (fs : List Frac) (i : ℕ) → (length vs ≤ i) ⊎ (length fs ≤ i) → each_line line (take i (map (λ v. v.name) vs)) (take i fs) ≡ each_line line (map (λ v. v.name) vs) fs
lines_end line vs fs i (inl h) = all_lines line (map (λ v. v.name) vs) fs i (inl (subst (λ n. n ≤ i) (sym (length-map vs (λ v. v.name))) h))
lines_end line vs fs i (inr h) = all_lines line (map (λ v. v.name) vs) fs i (inr h)

-- ---- points
pub more_values : (before out : List ℕ) (vs : List Variable) (fs : List Frac) (i : ℕ) (v : Variable) (f : Frac) → i < length vs → i < length fs → out ≡ before ++ point_lines (take i (map (λ v. v.name) vs)) (take i fs) → out ++ value_line (get_or vs i v).name (get_or fs i f) ≡ before ++ point_lines (take (i + 1) (map (λ v. v.name) vs)) (take (i + 1) fs)
more_values before out vs fs i v f h k e = more_lines value_line before out vs fs i v f h k e

pub all_values : (vs : List Variable) (fs : List Frac) (i : ℕ) → (length vs ≤ i) ⊎ (length fs ≤ i) → point_lines (take i (map (λ v. v.name) vs)) (take i fs) ≡ point_lines (map (λ v. v.name) vs) fs
all_values vs fs i h = lines_end value_line vs fs i h

-- ---- steps
pub more_steps : (before out : List ℕ) (vs : List Variable) (fs : List Frac) (i : ℕ) (v : Variable) (f : Frac) → i < length vs → i < length fs → out ≡ before ++ step_lines (take i (map (λ v. v.name) vs)) (take i fs) → out ++ step_line (get_or vs i v).name (get_or fs i f) ≡ before ++ step_lines (take (i + 1) (map (λ v. v.name) vs)) (take (i + 1) fs)
more_steps before out vs fs i v f h k e = more_lines step_line before out vs fs i v f h k e

pub all_steps : (vs : List Variable) (fs : List Frac) (i : ℕ) → (length vs ≤ i) ⊎ (length fs ≤ i) → step_lines (take i (map (λ v. v.name) vs)) (take i fs) ≡ step_lines (map (λ v. v.name) vs) fs
all_steps vs fs i h = lines_end step_line vs fs i h

pub ruleset reports = (more_factors, more_values, all_values, more_steps, all_steps)
