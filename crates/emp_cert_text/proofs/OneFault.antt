-- A text that is no certificate's has one fault.
use Rattle.std.proofs.Common.{◌≡◌, ℕ, zero, suc, Bool, List, [], ◌∷◌, ◌++◌, arith, refl, sym, ap, subst, ◌∙◌}
use Rattle.std.specs.Io.BufRead.{take_through, drop_through}
use Rattle.emp_cert_text.specs.Text.{version_text}
use Rattle.emp_cert_text.specs.Course.{Part, Stands, Runs, Reaches, RangeAt, Wrong, SyntaxAt}
use Rattle.emp_cert_text.specs.Course.Part.{counts}
use Rattle.emp_cert_text.specs.Laws.{OneCertFault}
use Rattle.emp_cert_text.specs.declared.read.CertFault.TheVariants.{TooLong, Version, Range, Syntax, NoMemory}
use Rattle.emp_cert_text.proofs.Whole.{stands_same, AllSmall, small_runs, right_stands, same_version}

-- no line stands for the first of these parts
abbrev IsStuck : List Part → List ℕ → Type 0
IsStuck ps t = (n : ℕ) (qs : List Part) (r : List ℕ) → Runs (suc n) ps t qs r → ⊥

beyond_stuck : (p : Part) (ps : List Part) (t : List ℕ) → ((qs : List Part) → Stands p (take_through 10 t) qs → ⊥) → IsStuck (p ∷ ps) t
beyond_stuck p ps t h n qs r k = h k.0 k.1

wrong_stuck : (ps : List Part) (t : List ℕ) → AllSmall ps → Wrong ps t → IsStuck ps t
wrong_stuck [] t s h n qs r k = k
wrong_stuck (p ∷ ps) t s h n qs r k = h (right_stands p (take_through 10 t) k.0 s.0 k.1)

-- where two runs of the same parts and text come to that is the same
record AreOne (m n : ℕ) (qs us : List Part) (r v : List ℕ) : Type 0 where
  lines : m ≡ n
  parts : qs ≡ us
  rest : r ≡ v

one_stop : (m n : ℕ) (ps : List Part) (t : List ℕ) (qs us : List Part) (r v : List ℕ) → Runs m ps t qs r → Runs n ps t us v → IsStuck qs r → IsStuck us v → AreOne m n qs us r v
one_stop zero zero ps t qs us r v h k s z = record { lines = refl; parts = sym h.0 ∙ k.0; rest = sym h.1 ∙ k.1 }
one_stop zero (suc n) ps t qs us r v h k s z = absurd (s n us v (subst (λ (x : List ℕ). Runs (suc n) qs x us v) h.1 (subst (λ (x : List Part). Runs (suc n) x t us v) h.0 k)))
one_stop (suc m) zero ps t qs us r v h k s z = absurd (z m qs r (subst (λ (x : List ℕ). Runs (suc m) us x qs r) k.1 (subst (λ (x : List Part). Runs (suc m) x t qs r) k.0 h)))
one_stop (suc m) (suc n) [] t qs us r v h k s z = absurd h
one_stop (suc m) (suc n) (p ∷ ps) t qs us r v h k s z =
    let e : k.0 ≡ h.0 = stands_same p (take_through 10 t) k.0 h.0 k.1 h.1 in
    let o = one_stop m n (h.0 ++ ps) (drop_through 10 t) qs us r v h.2 (subst (λ (x : List Part). Runs n (x ++ ps) (drop_through 10 t) us v) e k.2) s z in
    record { lines = ap suc o.lines; parts = o.parts; rest = o.rest }

-- the same of two places that the text reaches
reaches_one : (t : List ℕ) (m n : ℕ) (qs us : List Part) (r v : List ℕ) → Reaches t m qs r → Reaches t n us v → IsStuck qs r → IsStuck us v → AreOne m n qs us r v
reaches_one t m n qs us r v h k s z =
    let e : k.second ≡ h.second = same_version k.second h.second (sym k.version ∙ h.version) in
    let o = one_stop h.before k.before (counts h.second ∷ []) (drop_through 10 t) qs us r v h.runs (subst (λ (b : Bool). Runs k.before (counts b ∷ []) (drop_through 10 t) us v) e k.runs) s z in
    let l = o.lines in
    let i = h.line in
    let j = k.line in
    record { lines = omega (arith, l, i, j); parts = o.parts; rest = o.rest }

range_stuck : (t : List ℕ) (n : ℕ) (h : RangeAt t n) → IsStuck (h.part ∷ h.parts) h.rest
range_stuck t n h = beyond_stuck h.part h.parts h.rest h.beyond

syntax_stuck : (t : List ℕ) (n : ℕ) (h : SyntaxAt t n) → IsStuck h.parts h.rest
syntax_stuck t n h = wrong_stuck h.parts h.rest (small_runs h.reached.before (counts h.reached.second ∷ []) (drop_through 10 t) h.parts h.rest (tt, tt) h.reached.runs) h.wrong

range_or_syntax : (t : List ℕ) (m n : ℕ) → RangeAt t m → SyntaxAt t n → ⊥
range_or_syntax t m n h k =
    let o = reaches_one t m n (h.part ∷ h.parts) k.parts h.rest k.rest h.reached k.reached (range_stuck t m h) (syntax_stuck t n k) in
    subst (λ (x : List ℕ). Wrong (h.part ∷ h.parts) x) (sym o.rest) (subst (λ (x : List Part). Wrong x k.rest) (sym o.parts) k.wrong) h.right

no_version : (t : List ℕ) (n : ℕ) (ps : List Part) (r : List ℕ) → ((b : Bool) → take_through 10 t ≡ version_text b → ⊥) → Reaches t n ps r → ⊥
no_version t n ps r h k = h k.second k.version

pub one_cert_fault : OneCertFault
one_cert_fault t NoMemory f n m h k = absurd (n refl)
one_cert_fault t TooLong NoMemory n m h k = absurd (m refl)
one_cert_fault t TooLong TooLong n m h k = refl
one_cert_fault t TooLong Version n m h k = absurd (let l = k.0 in omega (arith, h, l))
one_cert_fault t TooLong (Range j) n m h k = absurd (let l = k.0 in omega (arith, h, l))
one_cert_fault t TooLong (Syntax j) n m h k = absurd (let l = k.0 in omega (arith, h, l))
one_cert_fault t Version NoMemory n m h k = absurd (m refl)
one_cert_fault t Version TooLong n m h k = absurd (let l = h.0 in omega (arith, k, l))
one_cert_fault t Version Version n m h k = refl
one_cert_fault t Version (Range j) n m h k = absurd (no_version t j (k.1.part ∷ k.1.parts) k.1.rest h.1 k.1.reached)
one_cert_fault t Version (Syntax j) n m h k = absurd (no_version t j k.1.parts k.1.rest h.1 k.1.reached)
one_cert_fault t (Range i) NoMemory n m h k = absurd (m refl)
one_cert_fault t (Range i) TooLong n m h k = absurd (let l = h.0 in omega (arith, k, l))
one_cert_fault t (Range i) Version n m h k = absurd (no_version t i (h.1.part ∷ h.1.parts) h.1.rest k.1 h.1.reached)
one_cert_fault t (Range i) (Range j) n m h k = ap Range (reaches_one t i j (h.1.part ∷ h.1.parts) (k.1.part ∷ k.1.parts) h.1.rest k.1.rest h.1.reached k.1.reached (range_stuck t i h.1) (range_stuck t j k.1)).lines
one_cert_fault t (Range i) (Syntax j) n m h k = absurd (range_or_syntax t i j h.1 k.1)
one_cert_fault t (Syntax i) NoMemory n m h k = absurd (m refl)
one_cert_fault t (Syntax i) TooLong n m h k = absurd (let l = h.0 in omega (arith, k, l))
one_cert_fault t (Syntax i) Version n m h k = absurd (no_version t i h.1.parts h.1.rest k.1 h.1.reached)
one_cert_fault t (Syntax i) (Range j) n m h k = absurd (range_or_syntax t j i k.1 h.1)
one_cert_fault t (Syntax i) (Syntax j) n m h k = ap Syntax (reaches_one t i j h.1.parts k.1.parts h.1.rest k.1.rest h.1.reached k.1.reached (syntax_stuck t i h.1) (syntax_stuck t j k.1)).lines
