-- The verb that words ask for.
use Rattle.std.proofs.Common.{◌≡◌, ℕ, true, false, List, [], ◌∷◌, codes, refl, sym, ap, ◌∙◌, bytes_eq}
use Rattle.std.proofs.lemmas.Bool.{false≢true}
use Rattle.emp_command.specs.declared.words.Verb.TheVariants.{Solve, Check, Print, Make, Migrate, Pieces}
use Rattle.emp_command.specs.Words.{Asked, Asks, solve, check, print, make, migrate, pieces}
use Rattle.emp_engine.specs.Run.{IsSolve, IsPrint, IsCheck, IsMigrate, IsMake}

pub other_words : (v w : List ℕ) (us ws : List (List ℕ)) → bytes_eq v w ≡ false → bytes_eq w w ≡ true → v ∷ us ≡ w ∷ ws → ⊥
other_words v w us ws f t e = false≢true (sym f ∙ (ap (λ u. bytes_eq u w) (first v w us ws e) ∙ t))
  where
    first : (v w : List ℕ) (us ws : List (List ℕ)) → v ∷ us ≡ w ∷ ws → v ≡ w
    first v w us ws e = cc

pub solve_verb : (words : List (List ℕ)) (r : Asked) → IsSolve words → Asks words r → r.verb ≡ Solve
solve_verb words r s (solve m i os o n a b c) = refl
solve_verb words r s (check m i c a b d) = absurd (other_words (codes "check") (codes "solve") (m ∷ i ∷ c ∷ []) s.0 refl refl s.1)
solve_verb words r s (print m i a b) = absurd (other_words (codes "print") (codes "solve") (m ∷ i ∷ []) s.0 refl refl s.1)
solve_verb words r s (make t f seed firms os o a b c) = absurd (other_words (codes "make") (codes "solve") (t ∷ f ∷ os) s.0 refl refl s.1)
solve_verb words r s (migrate m i c o a b d e) = absurd (other_words (codes "migrate") (codes "solve") (m ∷ i ∷ c ∷ o ∷ []) s.0 refl refl s.1)
solve_verb words r s (pieces m i os n a b c) = absurd (other_words (codes "pieces") (codes "solve") (m ∷ i ∷ os) s.0 refl refl s.1)

pub print_verb : (words : List (List ℕ)) (r : Asked) → IsPrint words → Asks words r → r.verb ≡ Print
print_verb words r s (print m i a b) = refl
print_verb words r s (check m i c a b d) = absurd (other_words (codes "check") (codes "print") (m ∷ i ∷ c ∷ []) s.0 refl refl s.1)
print_verb words r s (solve m i os o n a b c) = absurd (other_words (codes "solve") (codes "print") (m ∷ i ∷ os) s.0 refl refl s.1)
print_verb words r s (make t f seed firms os o a b c) = absurd (other_words (codes "make") (codes "print") (t ∷ f ∷ os) s.0 refl refl s.1)
print_verb words r s (migrate m i c o a b d e) = absurd (other_words (codes "migrate") (codes "print") (m ∷ i ∷ c ∷ o ∷ []) s.0 refl refl s.1)
print_verb words r s (pieces m i os n a b c) = absurd (other_words (codes "pieces") (codes "print") (m ∷ i ∷ os) s.0 refl refl s.1)

pub check_verb : (words : List (List ℕ)) (r : Asked) → IsCheck words → Asks words r → r.verb ≡ Check
check_verb words r s (check m i c a b d) = refl
check_verb words r s (print m i a b) = absurd (other_words (codes "print") (codes "check") (m ∷ i ∷ []) s.0 refl refl s.1)
check_verb words r s (solve m i os o n a b c) = absurd (other_words (codes "solve") (codes "check") (m ∷ i ∷ os) s.0 refl refl s.1)
check_verb words r s (make t f seed firms os o a b c) = absurd (other_words (codes "make") (codes "check") (t ∷ f ∷ os) s.0 refl refl s.1)
check_verb words r s (migrate m i c o a b d e) = absurd (other_words (codes "migrate") (codes "check") (m ∷ i ∷ c ∷ o ∷ []) s.0 refl refl s.1)
check_verb words r s (pieces m i os n a b c) = absurd (other_words (codes "pieces") (codes "check") (m ∷ i ∷ os) s.0 refl refl s.1)

pub migrate_verb : (words : List (List ℕ)) (r : Asked) → IsMigrate words → Asks words r → r.verb ≡ Migrate
migrate_verb words r s (migrate m i c o a b d e) = refl
migrate_verb words r s (print m i a b) = absurd (other_words (codes "print") (codes "migrate") (m ∷ i ∷ []) s.0 refl refl s.1)
migrate_verb words r s (solve m i os o n a b c) = absurd (other_words (codes "solve") (codes "migrate") (m ∷ i ∷ os) s.0 refl refl s.1)
migrate_verb words r s (make t f seed firms os o a b c) = absurd (other_words (codes "make") (codes "migrate") (t ∷ f ∷ os) s.0 refl refl s.1)
migrate_verb words r s (check m i c a b d) = absurd (other_words (codes "check") (codes "migrate") (m ∷ i ∷ c ∷ []) s.0 refl refl s.1)
migrate_verb words r s (pieces m i os n a b c) = absurd (other_words (codes "pieces") (codes "migrate") (m ∷ i ∷ os) s.0 refl refl s.1)

pub make_verb : (words : List (List ℕ)) (r : Asked) → IsMake words → Asks words r → r.verb ≡ Make
make_verb words r s (make t f seed firms os o a b c) = refl
make_verb words r s (print m i a b) = absurd (other_words (codes "print") (codes "make") (m ∷ i ∷ []) s.0 refl refl s.1)
make_verb words r s (solve m i os o n a b c) = absurd (other_words (codes "solve") (codes "make") (m ∷ i ∷ os) s.0 refl refl s.1)
make_verb words r s (check m i c a b d) = absurd (other_words (codes "check") (codes "make") (m ∷ i ∷ c ∷ []) s.0 refl refl s.1)
make_verb words r s (migrate m i c o a b d e) = absurd (other_words (codes "migrate") (codes "make") (m ∷ i ∷ c ∷ o ∷ []) s.0 refl refl s.1)
make_verb words r s (pieces m i os n a b c) = absurd (other_words (codes "pieces") (codes "make") (m ∷ i ∷ os) s.0 refl refl s.1)

-- ---- verbs differ
pub solve_not_make : Solve ≡ Make → ⊥
solve_not_make e = cc

pub print_not_make : Print ≡ Make → ⊥
print_not_make e = cc

pub check_not_make : Check ≡ Make → ⊥
check_not_make e = cc

pub migrate_not_make : Migrate ≡ Make → ⊥
migrate_not_make e = cc

pub pieces_not_make : Pieces ≡ Make → ⊥
pieces_not_make e = cc
