-- What the type of row systems keeps, and copies of systems.
use Rattle.std.proofs.Common.{◌≡◌, ℕ, ◌+◌, ◌<◌, ◌≤◌, List, [], ◌∷◌, ◌++◌, length, get_or, drop, sym, ap, ◌∙◌, append_assoc, append-nil}
use Rattle.std.proofs.lemmas.Int.{to_z-of_z}
use Rattle.std.proofs.lemmas.List.{drop_more, drop_all}
use Rattle.emp_rows.specs.declared.affine.Affine.{Affine}

pub ruleset keeping = (to_z-of_z)

-- ---- copies
pub copy_more : (out rows : List Affine) (i : ℕ) (r : Affine) → out ++ drop i rows ≡ rows → i < length rows → r ≡ get_or rows i r → (out ++ r ∷ []) ++ drop (i + 1) rows ≡ rows
copy_more out rows i r e h k = append_assoc out (r ∷ []) (drop (i + 1) rows) ∙ (ap (λ y. out ++ y ∷ drop (i + 1) rows) k ∙ (ap (λ l. out ++ l) (sym (drop_more rows i r h)) ∙ e))

pub copy_end : (out rows : List Affine) (i : ℕ) → out ++ drop i rows ≡ rows → length rows ≤ i → out ≡ rows
copy_end out rows i e h = sym (append-nil out) ∙ (ap (λ l. out ++ l) (sym (drop_all i rows h)) ∙ e)

pub ruleset copying = (to_z-of_z, copy_more, copy_end)
