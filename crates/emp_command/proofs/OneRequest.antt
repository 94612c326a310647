-- Words ask for one thing.
use Rattle.std.proofs.Common.{◌≡◌, ℕ, cond, List, [], ◌∷◌, codes, Option, Some, None, refl, sym, ◌∙◌, bytes_eq}
use Rattle.std.specs.Str.Parse.{digits_value}
use Rattle.emp_command.specs.declared.words.Verb.TheVariants.{Solve, Check, Print, Make, Migrate, Pieces}
use Rattle.emp_command.specs.Words.{Asked, default_work, HasSolveOptions, no_option, cert, work, cert_and_work, work_and_cert, HasSaveOption, unsaved, save, HasWorkOption, by_default, limited, Asks, solve, check, print, make, migrate, pieces}

-- ---- what is asked, by the places and the keys of the words
abbrev behind_key : List ℕ → List (List ℕ) → Option (List ℕ)
behind_key key [] = None
behind_key key (k ∷ []) = None
behind_key key (k ∷ w ∷ os) = cond (bytes_eq k key) (Some w) (behind_key key os)

abbrev work_of : Option (List ℕ) → ℕ
work_of None = default_work
work_of (Some w) = digits_value 10 w

abbrev work_at : List (List ℕ) → ℕ
work_at os = work_of (behind_key (codes "--work") os)

abbrev nothing : Asked
nothing = record { verb = Print; files = []; output = None; work = 0; seed = 0; firms = 0 }

abbrev solve_at : List (List ℕ) → Asked
solve_at (m ∷ i ∷ os) = record { verb = Solve; files = m ∷ i ∷ []; output = behind_key (codes "--cert") os; work = work_at os; seed = 0; firms = 0 }
solve_at ws = nothing

abbrev make_at : List (List ℕ) → Asked
make_at (s ∷ f ∷ os) = record { verb = Make; files = []; output = behind_key (codes "--save") os; work = default_work; seed = digits_value 10 s; firms = digits_value 10 f }
make_at ws = nothing

abbrev migrate_at : List (List ℕ) → Asked
migrate_at (m ∷ i ∷ c ∷ o ∷ []) = record { verb = Migrate; files = m ∷ i ∷ c ∷ []; output = Some o; work = default_work; seed = 0; firms = 0 }
migrate_at ws = nothing

abbrev pieces_at : List (List ℕ) → Asked
pieces_at (m ∷ i ∷ os) = record { verb = Pieces; files = m ∷ i ∷ []; output = None; work = work_at os; seed = 0; firms = 0 }
pieces_at ws = nothing

abbrev check_at : List (List ℕ) → Asked
check_at fs = record { verb = Check; files = fs; output = None; work = default_work; seed = 0; firms = 0 }

abbrev print_at : List (List ℕ) → Asked
print_at fs = record { verb = Print; files = fs; output = None; work = default_work; seed = 0; firms = 0 }

abbrev by_verb : List ℕ → List (List ℕ) → Asked
by_verb v ws =
    cond (bytes_eq v (codes "solve")) (solve_at ws)
    (cond (bytes_eq v (codes "check")) (check_at ws) (cond (bytes_eq v (codes "print")) (print_at ws) (cond (bytes_eq v (codes "make")) (make_at ws) (cond (bytes_eq v (codes "migrate")) (migrate_at ws) (pieces_at ws)))))

abbrev asked_at : List (List ℕ) → Asked
asked_at [] = nothing
asked_at (v ∷ ws) = by_verb v ws

-- ---- that is what words ask
solve_options : (os : List (List ℕ)) (o : Option (List ℕ)) (n : ℕ) → HasSolveOptions os o n → (o ≡ behind_key (codes "--cert") os) × (n ≡ work_at os)
solve_options os o n no_option = (refl, refl)
solve_options os o n (cert f a) = (refl, refl)
solve_options os o n (work w k a) = (refl, sym a.value)
solve_options os o n (cert_and_work f w k a b) = (refl, sym b.value)
solve_options os o n (work_and_cert w f k a b) = (refl, sym a.value)

save_option : (os : List (List ℕ)) (o : Option (List ℕ)) → HasSaveOption os o → o ≡ behind_key (codes "--save") os
save_option os o unsaved = refl
save_option os o (save f a) = refl

work_option : (os : List (List ℕ)) (n : ℕ) → HasWorkOption os n → n ≡ work_at os
work_option os n by_default = refl
work_option os n (limited w k a) = sym a.value

asked_is : (words : List (List ℕ)) (r : Asked) → Asks words r → r ≡ asked_at words
asked_is words r (solve m i os o n a b c) = let h = solve_options os o n c in rw (h.0, h.1) refl
asked_is words r (check m i c a b d) = refl
asked_is words r (print m i a b) = refl
asked_is words r (make s f seed firms os o a b c) = rw (sym a.value, sym b.value, save_option os o c) refl
asked_is words r (migrate m i c o a b d e) = refl
asked_is words r (pieces m i os n a b c) = rw (work_option os n c) refl

pub one_request : (words : List (List ℕ)) (r q : Asked) → Asks words r → Asks words q → r ≡ q
one_request words r q h k = asked_is words r h ∙ sym (asked_is words q k)
