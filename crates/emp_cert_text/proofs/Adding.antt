-- Words that are added to a text.
use Rattle.std.proofs.Common.{◌≡◌, ℕ, ◌+◌, ◌<◌, ◌≤◌, true, false, cond, ℤ, pos, List, [], ◌∷◌, ◌++◌, length, map, drop, get_or, decimal, codes, refl, sym, ap, ◌∙◌, append_assoc, append-nil}
use Rattle.std.specs.Fmt.{signed_decimal}
use Rattle.std.proofs.lemmas.List.{drop_more, drop_all}
use Rattle.std.proofs.lemmas.Int.{to_z-of_z}
use Rattle.emp_algebra.specs.Vector.{cell}
use Rattle.emp_numeral.specs.FracText.{fraction_text}
use Rattle.emp_num.specs.declared.frac.Frac.{Frac}
use Rattle.emp_rows.proofs.Tests.{zero_true, zero_false}
use Rattle.emp_cert_text.specs.Text.{spaced, line, sparse, pair_text, pairs_text}

pub ruleset adding = (to_z-of_z, append_assoc, append-nil)

pub spaced-append : (vs ws : List (List ℕ)) → spaced (vs ++ ws) ≡ spaced vs ++ spaced ws
spaced-append [] ws = refl
spaced-append (v ∷ vs) ws = ap (λ l. 32 ∷ l) (ap (λ l. v ++ l) (spaced-append vs ws) ∙ sym (append_assoc v (spaced vs) (spaced ws)))

-- one word more of those that are to come
pub word_more : (start out new rest : List ℕ) (w : List ℕ) (ws : List (List ℕ)) (whole : List ℕ) → new ≡ out ++ spaced (w ∷ []) → out ++ spaced (w ∷ ws) ≡ whole → new ++ spaced ws ≡ whole
word_more start out new rest w ws whole e h =
    ap (λ l. l ++ spaced ws) e ∙ (append_assoc out (spaced (w ∷ [])) (spaced ws) ∙ (ap (λ l. out ++ l) (sym (spaced-append (w ∷ []) ws)) ∙ h))

pub numbers_more : (out new : List ℕ) (ns : List ℤ) (i : ℕ) (whole : List ℕ) → i < length ns → new ≡ out ++ spaced (signed_decimal (cell ns i) ∷ []) → out ++ spaced (map signed_decimal (drop i ns)) ≡ whole → new ++ spaced (map signed_decimal (drop (i + 1) ns)) ≡ whole
numbers_more out new ns i whole l e h =
    word_more [] out new [] (signed_decimal (cell ns i)) (map signed_decimal (drop (i + 1) ns)) whole e (ap (λ xs. out ++ spaced (map signed_decimal xs)) (sym (drop_more ns i (pos 0) l)) ∙ h)

pub numbers_all : (out : List ℕ) (ns : List ℤ) (i : ℕ) (whole : List ℕ) → length ns ≤ i → out ++ spaced (map signed_decimal (drop i ns)) ≡ whole → out ≡ whole
numbers_all out ns i whole l h = sym (append-nil out) ∙ (ap (λ xs. out ++ spaced (map signed_decimal xs)) (sym (drop_all i ns l)) ∙ h)

pub ruleset numbering = (to_z-of_z, numbers_more, numbers_all)

pub fractions_more : (out new : List ℕ) (fs : List Frac) (i : ℕ) (f : Frac) (whole : List ℕ) → i < length fs → new ≡ out ++ spaced (fraction_text (get_or fs i f) ∷ []) → out ++ spaced (map fraction_text (drop i fs)) ≡ whole → new ++ spaced (map fraction_text (drop (i + 1) fs)) ≡ whole
fractions_more out new fs i f whole l e h =
    word_more [] out new [] (fraction_text (get_or fs i f)) (map fraction_text (drop (i + 1) fs)) whole e (ap (λ xs. out ++ spaced (map fraction_text xs)) (sym (drop_more fs i f l)) ∙ h)

pub fractions_all : (out : List ℕ) (fs : List Frac) (i : ℕ) (whole : List ℕ) → length fs ≤ i → out ++ spaced (map fraction_text (drop i fs)) ≡ whole → out ≡ whole
fractions_all out fs i whole l h = sym (append-nil out) ∙ (ap (λ xs. out ++ spaced (map fraction_text xs)) (sym (drop_all i fs l)) ∙ h)

pub ruleset fractions = (to_z-of_z, fractions_more, fractions_all)

pub sparse_more : (out new : List ℕ) (ns : List ℤ) (i : ℕ) (whole : List ℕ) → i < length ns → (cell ns i ≡ pos 0 → ⊥) → new ≡ out ++ spaced ((decimal (i + 1) ++ (58 ∷ signed_decimal (cell ns i))) ∷ []) → out ++ spaced (sparse (i + 1) (drop i ns)) ≡ whole → new ++ spaced (sparse (i + 1 + 1) (drop (i + 1) ns)) ≡ whole
sparse_more out new ns i whole l z e h =
    word_more [] out new [] (decimal (i + 1) ++ (58 ∷ signed_decimal (cell ns i))) (sparse (i + 1 + 1) (drop (i + 1) ns)) whole e
    (ap (λ b. out ++ spaced (cond b (sparse (i + 1 + 1) (drop (i + 1) ns)) ((decimal (i + 1) ++ (58 ∷ signed_decimal (cell ns i))) ∷ sparse (i + 1 + 1) (drop (i + 1) ns)))) (sym (zero_false (cell ns i) z))
    ∙ (ap (λ xs. out ++ spaced (sparse (i + 1) xs)) (sym (drop_more ns i (pos 0) l)) ∙ h))

pub sparse_none : (out : List ℕ) (ns : List ℤ) (i : ℕ) (whole : List ℕ) → i < length ns → cell ns i ≡ pos 0 → out ++ spaced (sparse (i + 1) (drop i ns)) ≡ whole → out ++ spaced (sparse (i + 1 + 1) (drop (i + 1) ns)) ≡ whole
sparse_none out ns i whole l z h =
    ap (λ b. out ++ spaced (cond b (sparse (i + 1 + 1) (drop (i + 1) ns)) ((decimal (i + 1) ++ (58 ∷ signed_decimal (cell ns i))) ∷ sparse (i + 1 + 1) (drop (i + 1) ns)))) (sym (zero_true (cell ns i) z))
    ∙ (ap (λ xs. out ++ spaced (sparse (i + 1) xs)) (sym (drop_more ns i (pos 0) l)) ∙ h)

pub sparse_all : (out : List ℕ) (ns : List ℤ) (i : ℕ) (whole : List ℕ) → length ns ≤ i → out ++ spaced (sparse (i + 1) (drop i ns)) ≡ whole → out ≡ whole
sparse_all out ns i whole l h = sym (append-nil out) ∙ (ap (λ xs. out ++ spaced (sparse (i + 1) xs)) (sym (drop_all i ns l)) ∙ h)

pub ruleset sparse_factors = (to_z-of_z, sparse_more, sparse_none, sparse_all)

-- ---- lines
pub pairs_more : (out new : List ℕ) (ps : List (ℕ × ℕ)) (i : ℕ) (d : ℕ × ℕ) (whole : List ℕ) → i < length ps → new ≡ out ++ pair_text (get_or ps i d) → out ++ pairs_text (drop i ps) ≡ whole → new ++ pairs_text (drop (i + 1) ps) ≡ whole
pairs_more out new ps i d whole l e h =
    ap (λ t. t ++ pairs_text (drop (i + 1) ps)) e ∙ (append_assoc out (pair_text (get_or ps i d)) (pairs_text (drop (i + 1) ps)) ∙ (ap (λ xs. out ++ pairs_text xs) (sym (drop_more ps i d l)) ∙ h))

pub pairs_all : (out : List ℕ) (ps : List (ℕ × ℕ)) (i : ℕ) (whole : List ℕ) → length ps ≤ i → out ++ pairs_text (drop i ps) ≡ whole → out ≡ whole
pairs_all out ps i whole l h = sym (append-nil out) ∙ (ap (λ xs. out ++ pairs_text xs) (sym (drop_all i ps l)) ∙ h)

pub ruleset pairing = (to_z-of_z, pairs_more, pairs_all)

-- the word, the weight, the factors and LF are a line
pub bound_line : (out a b c d : List ℕ) (w : List ℕ) (ws : List (List ℕ)) → a ≡ out ++ codes "bound" → b ≡ a ++ spaced (w ∷ []) → c ≡ b ++ spaced ws → d ≡ c ++ 10 ∷ [] → d ≡ out ++ line (codes "bound") (w ∷ ws)
bound_line out a b c d w ws e f g h =
    h ∙ (ap (λ t. t ++ 10 ∷ []) (g ∙ (ap (λ t. t ++ spaced ws) (f ∙ ap (λ t. t ++ spaced (w ∷ [])) e)
    ∙ (append_assoc (out ++ codes "bound") (spaced (w ∷ [])) (spaced ws) ∙ ap (λ t. (out ++ codes "bound") ++ t) (sym (spaced-append (w ∷ []) ws)))))
    ∙ (append_assoc (out ++ codes "bound") (spaced (w ∷ ws)) (10 ∷ []) ∙ append_assoc out (codes "bound") (spaced (w ∷ ws) ++ 10 ∷ [])))

pub ruleset bounding = (to_z-of_z, bound_line)
