-- Texts that are loaded with one byte more than the longest has.
use Rattle.std.proofs.Common.{◌≡◌, ℕ, ◌+◌, ◌<◌, ◌≤◌, List, take, length, Option, arith, sym, ap, ◌∙◌}
use Rattle.std.proofs.lemmas.List.{take_all, length-take}
use Rattle.emp_desk.specs.Desk.{Contents, Told, Loads}
use Rattle.emp_command.specs.Course.{limit_of}
use Rattle.emp_command.specs.Refusals.{IsFile, IsLong}
use Rattle.emp_command.proofs.Telling.{told_map}

module _ (k most : ℕ) (is : most ≡ limit_of k + 1) (name bytes : List ℕ) (t0 t1 : Option Contents) (loaded : Told (Loads name most bytes) t0 t1) where
  whole : (a : List ℕ) → bytes ≡ take most a → length bytes ≤ limit_of k → a ≡ bytes
  whole a e h = sym (e ∙ take_all most a (let m = length-take most a in let l = ap length e in omega arith))

  pub file_is : length bytes ≤ limit_of k → Told (IsFile name k bytes) t0 t1
  file_is h = told_map (Loads name most bytes) (IsFile name k bytes) (λ x y l. record { holds = whole (x.holds name) l.bytes_are h; fits = h }) t0 t1 loaded

  long : (a : List ℕ) → bytes ≡ take most a → limit_of k < length bytes → limit_of k < length a
  long a e h = let m = length-take most a in let l = ap length e in omega arith

  pub file_long : limit_of k < length bytes → Told (IsLong name k) t0 t1
  file_long h = told_map (Loads name most bytes) (IsLong name k) (λ x y l. long (x.holds name) l.bytes_are h) t0 t1 loaded
