-- Statements keep the names that are declared, and give them numbers in range.
use Rattle.std.proofs.Common.{◌≡◌, ◌⊎◌, inl, inr, ℕ, ◌<◌, Bool, true, false, cond, not, ◌&&◌, List, [], ◌∷◌, ◌++◌, map, length, Option, Some, None, Ok, Err, arith, refl, sym, ap, subst, ◌∙◌}
use Rattle.std.specs.Prelude.{bytes_eq, nat_lt}
use Rattle.std.specs.List.{AllByRecursion as Each}
use Rattle.std.proofs.lemmas.Bool.{cond_both}
use Rattle.std.proofs.lemmas.List.{length-set, length_push}
use Rattle.emp_list.specs.Case.{lower}
use Rattle.emp_ast.specs.declared.tree.Place.{Place}
use Rattle.emp_ast.specs.declared.tree.VarId.{VarId}
use Rattle.emp_ast.specs.declared.tree.EquId.{EquId}
use Rattle.emp_ast.specs.declared.model.Sense.{Sense}
use Rattle.gms_grammar.specs.declared.lexeme.Word.TheVariants.{Low, High, Fixed, Level as LevelWord, Marginal}
use Rattle.gms_grammar.specs.declared.lexeme.Domain.{Domain}
use Rattle.gms_grammar.specs.declared.lexeme.Sort.{Sort}
use Rattle.gms_grammar.specs.declared.lexeme.Sort.TheVariants.{Name}
use Rattle.gms_grammar.specs.declared.lexeme.Lexeme.{Lexeme}
use Rattle.gms_grammar.specs.declared.limit.Limit.{Limit}
use Rattle.gms_grammar.specs.declared.fault.ModelFault.{ModelFault}
use Rattle.gms_grammar.specs.Lexemes.{spelling}
use Rattle.gms_grammar.specs.Grammar.{Statement, empty, variables, equations, definition, setting, model, matched, solve}
use Rattle.gms_read.specs.declared.draft.Draft.{Draft}
use Rattle.gms_read.specs.declared.draft.DraftVariable.{DraftVariable}
use Rattle.gms_read.specs.declared.table.Named.{Named}
use Rattle.gms_read.specs.declared.table.Named.TheVariants.{Variable as VariableName, Equation as EquationName, Model as ModelName}
use Rattle.gms_read.specs.Rules.{Step, and_then, or_else, unless_fault, fault_where, entry_of, declared_as, variable_in, equation_in, variable_of, equation_of, is_none, or_zero, is_model, first_low, first_high, has_sign, variable_at, with_variable, add_variable, add_equation, add_model, restrict, declare_by, declare_variable, declare_equation, declare_all, discrete_fault, declare_model, match_fault, matches_fault, with_definition, definition_fault, expression_fault, is_infinite, with_low, with_high, set_variable, set_equation, set_by, with_goal, aim_at, aim, after, after_all, nothing_yet}
use Rattle.gms_matches.specs.Matches.{pair_in, matches_of, matches_in, IsWithin}
use Rattle.gms_matches.specs.Laws.{MatchesAreWithin}

pub record InRange (d : Draft) : Type 0 where
  pub variable : (key : List ℕ) (k : ℕ) → entry_of d.names key ≡ Some (VariableName k) → k < length d.variables
  pub equation : (key : List ℕ) (k : ℕ) → entry_of d.names key ≡ Some (EquationName k) → k < length d.equations

pub record Grows (d e : Draft) : Type 0 where
  pub names : (key : List ℕ) (x : Named) → entry_of d.names key ≡ Some x → entry_of e.names key ≡ Some x
  pub ranges : InRange d → InRange e

abbrev pub GrowsStep : Draft → Step → Type 0
GrowsStep d (Ok e) = Grows d e
GrowsStep d (Err f) = Unit {0}

grows_itself : (d : Draft) → Grows d d
grows_itself d = record { names = λ key x h. h; ranges = λ r. r }

grows_on : (d e f : Draft) → Grows d e → Grows e f → Grows d f
grows_on d e f g h = record { names = λ key x k. h.names key x (g.names key x k); ranges = λ r. h.ranges (g.ranges r) }

-- ---- the table
entry_kept : (es : List (List ℕ × Named)) (e : List ℕ × Named) (key : List ℕ) (x : Named) → entry_of es key ≡ Some x → entry_of (es ++ e ∷ []) key ≡ Some x
entry_kept [] e key x h = absurd (let z : ◌≡◌ {A = Option Named} None (Some x) = h in cc)
entry_kept (f ∷ es) e key x h = go (bytes_eq f.0 key) (entry_kept es e key x) h
  where
    go : (b : Bool) → (entry_of es key ≡ Some x → entry_of (es ++ e ∷ []) key ≡ Some x) → cond b (Some f.1) (entry_of es key) ≡ Some x → cond b (Some f.1) (entry_of (es ++ e ∷ []) key) ≡ Some x
    go true more h = h
    go false more h = more h

found_push : (es : List (List ℕ × Named)) (e : List ℕ × Named) (key : List ℕ) (x : Named) → entry_of (es ++ e ∷ []) key ≡ Some x → (entry_of es key ≡ Some x) ⊎ (e.1 ≡ x)
found_push [] e key x h = go (bytes_eq e.0 key) h
  where
    go : (b : Bool) → cond b (Some e.1) None ≡ Some x → (None ≡ Some x) ⊎ (e.1 ≡ x)
    go true h = inr (let z : ◌≡◌ {A = Option Named} (Some e.1) (Some x) = h in cc)
    go false h = inl h
found_push (f ∷ es) e key x h = go (bytes_eq f.0 key) (found_push es e key x) h
  where
    go : (b : Bool) → (entry_of (es ++ e ∷ []) key ≡ Some x → (entry_of es key ≡ Some x) ⊎ (e.1 ≡ x)) → cond b (Some f.1) (entry_of (es ++ e ∷ []) key) ≡ Some x → (cond b (Some f.1) (entry_of es key) ≡ Some x) ⊎ (e.1 ≡ x)
    go true more h = inl h
    go false more h = more h

-- a new name
add_variable_grows : (text : List ℕ) (k : Domain) (d : Draft) (t : Lexeme) → Grows d (add_variable text k d t)
add_variable_grows text k d t = record {
  names = λ key x h. entry_kept d.names (lower (spelling text t), VariableName (length d.variables)) key x h;
  ranges = λ r. record {
    variable = λ key j h. number r key j (found_push d.names (lower (spelling text t), VariableName (length d.variables)) key (VariableName j) h);
    equation = λ key j h. other r key j (found_push d.names (lower (spelling text t), VariableName (length d.variables)) key (EquationName j) h);
  };
}
  where
    v : DraftVariable
    v = record { name = spelling text t; low = first_low k; high = first_high k; signed = has_sign k }

    number : InRange d → (key : List ℕ) (j : ℕ) → (entry_of d.names key ≡ Some (VariableName j)) ⊎ (VariableName (length d.variables) ≡ VariableName j) → j < length (add_variable text k d t).variables
    number r key j (inl q) = let a = r.variable key j q in let b = length_push d.variables v in omega (arith, a, b)
    number r key j (inr q) = let a : length d.variables ≡ j = cc in let b = length_push d.variables v in omega (arith, a, b)

    other : InRange d → (key : List ℕ) (j : ℕ) → (entry_of d.names key ≡ Some (EquationName j)) ⊎ (VariableName (length d.variables) ≡ EquationName j) → j < length d.equations
    other r key j (inl q) = r.equation key j q
    other r key j (inr q) = absurd (cc)

add_equation_grows : (text : List ℕ) (d : Draft) (t : Lexeme) → Grows d (add_equation text d t)
add_equation_grows text d t = record {
  names = λ key x h. entry_kept d.names (lower (spelling text t), EquationName (length d.equations)) key x h;
  ranges = λ r. record {
    variable = λ key j h. other r key j (found_push d.names (lower (spelling text t), EquationName (length d.equations)) key (VariableName j) h);
    equation = λ key j h. number r key j (found_push d.names (lower (spelling text t), EquationName (length d.equations)) key (EquationName j) h);
  };
}
  where
    number : InRange d → (key : List ℕ) (j : ℕ) → (entry_of d.names key ≡ Some (EquationName j)) ⊎ (EquationName (length d.equations) ≡ EquationName j) → j < length (add_equation text d t).equations
    number r key j (inl q) = let a = r.equation key j q in let b = length_push d.equations (record { name = spelling text t; definition = None }) in omega (arith, a, b)
    number r key j (inr q) = let a : length d.equations ≡ j = cc in let b = length_push d.equations (record { name = spelling text t; definition = None }) in omega (arith, a, b)

    other : InRange d → (key : List ℕ) (j : ℕ) → (entry_of d.names key ≡ Some (VariableName j)) ⊎ (EquationName (length d.equations) ≡ VariableName j) → j < length d.variables
    other r key j (inl q) = r.variable key j q
    other r key j (inr q) = absurd (cc)

add_model_grows : (text : List ℕ) (d : Draft) (t : Lexeme) → Grows d (add_model text d t)
add_model_grows text d t = record {
  names = λ key x h. entry_kept d.names (lower (spelling text t), ModelName) key x h;
  ranges = λ r. record {
    variable = λ key j h. variable r key j (found_push d.names (lower (spelling text t), ModelName) key (VariableName j) h);
    equation = λ key j h. equation r key j (found_push d.names (lower (spelling text t), ModelName) key (EquationName j) h);
  };
}
  where
    variable : InRange d → (key : List ℕ) (j : ℕ) → (entry_of d.names key ≡ Some (VariableName j)) ⊎ (ModelName ≡ VariableName j) → j < length d.variables
    variable r key j (inl q) = r.variable key j q
    variable r key j (inr q) = absurd (cc)

    equation : InRange d → (key : List ℕ) (j : ℕ) → (entry_of d.names key ≡ Some (EquationName j)) ⊎ (ModelName ≡ EquationName j) → j < length d.equations
    equation r key j (inl q) = r.equation key j q
    equation r key j (inr q) = absurd (cc)

-- the same names over as many variables and equations
same_grows : (d e : Draft) → e.names ≡ d.names → length e.variables ≡ length d.variables → length e.equations ≡ length d.equations → Grows d e
same_grows d e n v q = record {
  names = λ key x h. ap (λ es. entry_of es key) n ∙ h;
  ranges = λ r. record {
    variable = λ key k h. let l = r.variable key k (sym (ap (λ es. entry_of es key) n) ∙ h) in omega (arith, l, v);
    equation = λ key k h. let l = r.equation key k (sym (ap (λ es. entry_of es key) n) ∙ h) in omega (arith, l, q);
  };
}

with_variable_grows : (d : Draft) (k : ℕ) (v : DraftVariable) → Grows d (with_variable d k v)
with_variable_grows d k v = same_grows d (with_variable d k v) refl (length-set d.variables k v) refl

-- ---- steps
then_grows : (d : Draft) (r : Step) (following : Draft → Step) → GrowsStep d r → ((e : Draft) → GrowsStep e (following e)) → GrowsStep d (and_then r following)
then_grows d (Err f) following h k = tt
then_grows d (Ok e) following h k = go (following e) (k e)
  where
    go : (r : Step) → GrowsStep e r → GrowsStep d r
    go (Ok f) g = grows_on d e f h g
    go (Err f) g = tt

unless_grows : (d : Draft) (o : Option ModelFault) (r : Step) → GrowsStep d r → GrowsStep d (unless_fault o r)
unless_grows d (Some f) r h = tt
unless_grows d None r h = h

restrict_grows : (k : Domain) (d : Draft) (t : Lexeme) (at : ℕ) → GrowsStep d (restrict k d t at)
restrict_grows k d t at = cond_both (has_sign k && not (variable_at d at).signed) (Ok (with_variable d at (record { name = (variable_at d at).name; low = first_low k; high = first_high k; signed = true }))) (Err _) (GrowsStep d) (λ _. with_variable_grows d at _) (λ _. tt)

declare_by_grows : (text : List ℕ) (k : Domain) (d : Draft) (t : Lexeme) (o : Option Named) → GrowsStep d (declare_by text k d t o)
declare_by_grows text k d t None = cond_both (nat_lt (length d.variables) 512) (Ok (add_variable text k d t)) (Err _) (GrowsStep d) (λ _. add_variable_grows text k d t) (λ _. tt)
declare_by_grows text k d t (Some (VariableName at)) = restrict_grows k d t at
declare_by_grows text k d t (Some (EquationName at)) = tt
declare_by_grows text k d t (Some ModelName) = tt

declare_equation_grows : (text : List ℕ) (d : Draft) (t : Lexeme) → GrowsStep d (declare_equation text d t)
declare_equation_grows text d t =
    cond_both (is_none (declared_as text d t)) (cond (nat_lt (length d.equations) 512) (Ok (add_equation text d t)) (Err _)) (Err _) (GrowsStep d)
    (λ _. cond_both (nat_lt (length d.equations) 512) (Ok (add_equation text d t)) (Err _) (GrowsStep d) (λ _. add_equation_grows text d t) (λ _. tt))
    (λ _. tt)

declare_all_grows : (one : Draft → Lexeme → Step) → ((d : Draft) (t : Lexeme) → GrowsStep d (one d t)) → (d : Draft) (ts : List Lexeme) → GrowsStep d (declare_all one d ts)
declare_all_grows one h d [] = grows_itself d
declare_all_grows one h d (t ∷ ts) = then_grows d (one d t) (λ e. declare_all one e ts) (h d t) (λ e. declare_all_grows one h e ts)

declare_model_grows : (text : List ℕ) (d : Draft) (t : Lexeme) → GrowsStep d (declare_model text d t)
declare_model_grows text d t = cond_both (is_none d.model && is_none (declared_as text d t)) (Ok (add_model text d t)) (Err _) (GrowsStep d) (λ _. add_model_grows text d t) (λ _. tt)

with_high_grows : (d : Draft) (k : ℕ) (limit : Limit) → Grows d (with_high d k limit)
with_high_grows d k limit = with_variable_grows d k (record { name = (variable_at d k).name; low = (variable_at d k).low; high = limit; signed = (variable_at d k).signed })

with_low_grows : (d : Draft) (k : ℕ) (limit : Limit) → Grows d (with_low d k limit)
with_low_grows d k limit = with_variable_grows d k (record { name = (variable_at d k).name; low = limit; high = (variable_at d k).high; signed = (variable_at d k).signed })

set_variable_grows : (d : Draft) (k : ℕ) (place : Place) (r : Sort) (limit : Limit) → GrowsStep d (set_variable d k place r limit)
set_variable_grows d k place (Name Low) limit = with_low_grows d k limit
set_variable_grows d k place (Name High) limit = with_high_grows d k limit
set_variable_grows d k place (Name Fixed) limit = cond_both (is_infinite limit) (Err _) (Ok (with_high (with_low d k limit) k limit)) (GrowsStep d) (λ _. tt) (λ _. grows_on d (with_low d k limit) (with_high (with_low d k limit) k limit) (with_low_grows d k limit) (with_high_grows (with_low d k limit) k limit))
set_variable_grows d k place (Name LevelWord) limit = grows_itself d
set_variable_grows d k place (Name Marginal) limit = grows_itself d
set_variable_grows d k place r limit = tt

set_equation_grows : (d : Draft) (place : Place) (r : Sort) → GrowsStep d (set_equation d place r)
set_equation_grows d place (Name LevelWord) = grows_itself d
set_equation_grows d place (Name Marginal) = grows_itself d
set_equation_grows d place r = tt

set_by_grows : (d : Draft) (t a : Lexeme) (limit : Limit) (o : Option Named) → GrowsStep d (set_by d t a limit o)
set_by_grows d t a limit (Some (VariableName k)) = set_variable_grows d k a.place a.sort limit
set_by_grows d t a limit (Some (EquationName k)) = set_equation_grows d a.place a.sort
set_by_grows d t a limit (Some ModelName) = grows_itself d
set_by_grows d t a limit None = tt

with_goal_grows : (d : Draft) (goal : Option (Sense × VarId)) → Grows d (with_goal d goal)
with_goal_grows d goal = same_grows d (with_goal d goal) refl refl refl

aim_grows : (text : List ℕ) (d : Draft) (goal : Option (Sense × Lexeme)) → GrowsStep d (aim text d goal)
aim_grows text d None = with_goal_grows d None
aim_grows text d (Some (s, t)) = go (variable_of text d t)
  where
    go : (o : Option ℕ) → GrowsStep d (aim_at d s t o)
    go None = tt
    go (Some k) = with_goal_grows d (Some (s, record { at = k }))

after_grows : (text : List ℕ) (d : Draft) (s : Statement) → GrowsStep d (after text d s)
after_grows text d empty = grows_itself d
after_grows text d (variables k w names) = unless_grows d (discrete_fault k w) (declare_all (declare_variable text k) d names) (declare_all_grows (declare_variable text k) (λ e t. declare_by_grows text k e t (declared_as text e t)) d names)
after_grows text d (equations names) = declare_all_grows (declare_equation text) (declare_equation_grows text) d names
after_grows text d (definition t left r right) =
    unless_grows d (or_else (definition_fault d t (equation_of text d t)) (or_else (expression_fault text d left) (expression_fault text d right))) (Ok (with_definition text d (or_zero (equation_of text d t)) left r right))
    (same_grows d (with_definition text d (or_zero (equation_of text d t)) left r right) refl refl (length-set d.equations (or_zero (equation_of text d t)) _))
after_grows text d (setting t a limit) = set_by_grows d t a limit (declared_as text d t)
after_grows text d (model t) = declare_model_grows text d t
after_grows text d (matched t qs) = then_grows d (declare_model text d t) (λ e. unless_fault (matches_fault text e qs) (Ok e)) (declare_model_grows text d t) (λ e. unless_grows e (matches_fault text e qs) (Ok e) (grows_itself e))
after_grows text d (solve t goal) = cond_both (is_model text d t) (aim text d goal) (Err _) (GrowsStep d) (λ _. aim_grows text d goal) (λ _. tt)

-- ---- matches
-- a match whose equation and variable are declared
abbrev pub IsFound : List ℕ → Draft → Lexeme × Lexeme → Type 0
IsFound text d q = ((k : ℕ) × (declared_as text d q.0 ≡ Some (EquationName k))) × ((j : ℕ) × (declared_as text d q.1 ≡ Some (VariableName j)))

found_grows : (text : List ℕ) (d e : Draft) (q : Lexeme × Lexeme) → Grows d e → IsFound text d q → IsFound text e q
found_grows text d e q g h = ((h.0.0, g.names (lower (spelling text q.0)) (EquationName h.0.0) h.0.1), (h.1.0, g.names (lower (spelling text q.1)) (VariableName h.1.0) h.1.1))

found_within : (text : List ℕ) (d : Draft) (q : Lexeme × Lexeme) → InRange d → IsFound text d q → IsWithin d (pair_in text d q)
found_within text d q r h =
    let a = r.equation (lower (spelling text q.0)) h.0.0 h.0.1 in
    let b = r.variable (lower (spelling text q.1)) h.1.0 h.1.1 in
    let e : or_zero (equation_of text d q.0) ≡ h.0.0 = ap (λ o. or_zero (equation_in o)) h.0.1 in
    let v : or_zero (variable_of text d q.1) ≡ h.1.0 = ap (λ o. or_zero (variable_in o)) h.1.1 in
    (omega (arith, a, e), omega (arith, b, v))

is_equation : (o : Option Named) (f : ModelFault) → fault_where (is_none (equation_in o)) f ≡ None → (k : ℕ) × (o ≡ Some (EquationName k))
is_equation (Some (VariableName k)) f e = absurd (let z : ◌≡◌ {A = Option ModelFault} (Some f) None = e in cc)
is_equation (Some (EquationName k)) f e = (k, refl)
is_equation (Some ModelName) f e = absurd (let z : ◌≡◌ {A = Option ModelFault} (Some f) None = e in cc)
is_equation None f e = absurd (let z : ◌≡◌ {A = Option ModelFault} (Some f) None = e in cc)

is_variable : (o : Option Named) (f : ModelFault) → fault_where (is_none (variable_in o)) f ≡ None → (k : ℕ) × (o ≡ Some (VariableName k))
is_variable (Some (VariableName k)) f e = (k, refl)
is_variable (Some (EquationName k)) f e = absurd (let z : ◌≡◌ {A = Option ModelFault} (Some f) None = e in cc)
is_variable (Some ModelName) f e = absurd (let z : ◌≡◌ {A = Option ModelFault} (Some f) None = e in cc)
is_variable None f e = absurd (let z : ◌≡◌ {A = Option ModelFault} (Some f) None = e in cc)

neither : (a b : Option ModelFault) → or_else a b ≡ None → (a ≡ None) × (b ≡ None)
neither (Some f) b e = absurd (let z : ◌≡◌ {A = Option ModelFault} (Some f) None = e in cc)
neither None b e = (refl, e)

all_found : (text : List ℕ) (d : Draft) (qs : List (Lexeme × Lexeme)) → matches_fault text d qs ≡ None → Each (IsFound text d) qs
all_found text d [] e = tt
all_found text d (q ∷ qs) e =
    let p = neither (match_fault text d q) (matches_fault text d qs) e in
    let r = neither (fault_where (is_none (equation_of text d q.0)) _) (fault_where (is_none (variable_of text d q.1)) _) p.0 in
    ((is_equation (declared_as text d q.0) _ r.0, is_variable (declared_as text d q.1) _ r.1), all_found text d qs p.1)

unless_ok : (o : Option ModelFault) (c d : Draft) → unless_fault o (Ok c) ≡ Ok d → (o ≡ None) × (c ≡ d)
unless_ok (Some f) c d e = absurd (let z : ◌≡◌ {A = Step} (Err f) (Ok d) = e in cc)
unless_ok None c d e = (refl, let z : ◌≡◌ {A = Step} (Ok c) (Ok d) = e in cc)

statement_found : (text : List ℕ) (c : Draft) (s : Statement) (d : Draft) → after text c s ≡ Ok d → Each (IsFound text d) (matches_of s)
statement_found text c empty d e = tt
statement_found text c (variables k w names) d e = tt
statement_found text c (equations names) d e = tt
statement_found text c (definition t left r right) d e = tt
statement_found text c (setting t a limit) d e = tt
statement_found text c (model t) d e = tt
statement_found text c (matched t qs) d e = go (declare_model text c t) e
  where
    go : (r : Step) → and_then r (λ x. unless_fault (matches_fault text x qs) (Ok x)) ≡ Ok d → Each (IsFound text d) qs
    go (Err f) e = absurd (let z : ◌≡◌ {A = Step} (Err f) (Ok d) = e in cc)
    go (Ok x) e = let p = unless_ok (matches_fault text x qs) x d e in subst (λ y. Each (IsFound text y) qs) p.1 (all_found text x qs p.0)
statement_found text c (solve t goal) d e = tt

each_within : (text : List ℕ) (c d : Draft) (qs : List (Lexeme × Lexeme)) (more : List (EquId × VarId)) → Grows c d → InRange d → Each (IsFound text c) qs → Each (IsWithin d) more → Each (IsWithin d) (map (pair_in text d) qs ++ more)
each_within text c d [] more g r h m = m
each_within text c d (q ∷ qs) more g r h m = (found_within text d q r (found_grows text c d q g h.0), each_within text c d qs more g r h.1 m)

within : (text : List ℕ) (ss : List Statement) (c d : Draft) → InRange c → after_all text c ss ≡ Ok d → Grows c d × Each (IsWithin d) (matches_in text d ss)
within text [] c d r e = (subst (λ x. Grows c x) (let z : ◌≡◌ {A = Step} (Ok c) (Ok d) = e in let y : c ≡ d = cc in y) (grows_itself c), tt)
within text (s ∷ ss) c d r e = go (after text c s) refl (after_grows text c s) e (within text ss)
  where
    go : (x : Step) → after text c s ≡ x → GrowsStep c x → and_then x (λ y. after_all text y ss) ≡ Ok d → ((y z : Draft) → InRange y → after_all text y ss ≡ Ok z → Grows y z × Each (IsWithin z) (matches_in text z ss)) → Grows c d × Each (IsWithin d) (map (pair_in text d) (matches_of s) ++ matches_in text d ss)
    go (Err f) same g e more = absurd (let z : ◌≡◌ {A = Step} (Err f) (Ok d) = e in cc)
    go (Ok y) same g e more =
        let h = more y d (g.ranges r) e in
        (grows_on c y d g h.0, each_within text y d (matches_of s) (matches_in text d ss) h.0 (h.0.ranges (g.ranges r)) (statement_found text c s y same) h.1)

nothing_in_range : InRange nothing_yet
nothing_in_range = record {
  variable = λ key k h. absurd (let z : ◌≡◌ {A = Option Named} None (Some (VariableName k)) = h in cc);
  equation = λ key k h. absurd (let z : ◌≡◌ {A = Option Named} None (Some (EquationName k)) = h in cc);
}

pub matches_are_within : MatchesAreWithin
matches_are_within text ss d e = (within text ss nothing_yet d nothing_in_range e).1
