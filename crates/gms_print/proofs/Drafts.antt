-- What each draft keeps that good statements give.
use Rattle.std.proofs.Common.{◌≡◌, ◌≢◌, ◌⊎◌, inl, inr, ℕ, zero, suc, ◌+◌, ◌<◌, ◌≤◌, ℤ, pos, negsuc, Bool, true, false, cond, not, ◌&&◌, List, [], ◌∷◌, ◌++◌, map, length, AllPairs, Option, Some, None, Ok, Err, get_or, set, refl, sym, ap, subst, ◌∙◌, arith, append_assoc}
use Rattle.std.specs.Prelude.{bytes_eq, nat_lt, nat_le}
use Rattle.std.specs.List.{AllByRecursion as Each}
use Rattle.std.proofs.lemmas.Bool.{both_ways, and_parts, cond_both, ltb-true, leb-true, eq-eqb, false≢true}
use Rattle.std.proofs.lemmas.List.{map-set, set-get_or, map_push, length-set, length_push}
use Rattle.std.proofs.lemmas.List.Elements.{All-from_recursion}
use Rattle.emp_num.specs.declared.frac.Frac.{Frac}
use Rattle.emp_num.specs.Whole.{whole}
use Rattle.emp_list.specs.Case.{lower}
use Rattle.emp_ast.specs.declared.tree.Place.{Place}
use Rattle.emp_ast.specs.declared.tree.Tree.{Tree}
use Rattle.emp_ast.specs.declared.tree.VarId.{VarId}
use Rattle.emp_ast.specs.declared.model.Relation.{Relation}
use Rattle.emp_ast.specs.declared.model.Sense.{Sense}
use Rattle.emp_ast.specs.Expression.{Expression, number, variable as variable_of_number, negated, joined as joined_with, power}
use Rattle.gms_grammar.specs.declared.lexeme.Word.TheVariants.{Low, High, Fixed, Level as LevelWord, Marginal}
use Rattle.gms_grammar.specs.declared.lexeme.Domain.{Domain}
use Rattle.gms_grammar.specs.declared.lexeme.Domain.TheVariants.{Free, Positive, Negative, Discrete}
use Rattle.gms_grammar.specs.declared.lexeme.Sign.TheVariants.{Plus, Minus}
use Rattle.gms_grammar.specs.declared.lexeme.Sort.{Sort}
use Rattle.gms_grammar.specs.declared.lexeme.Sort.TheVariants.{Name}
use Rattle.gms_grammar.specs.declared.lexeme.Lexeme.{Lexeme}
use Rattle.gms_read.specs.declared.draft.Definition.{Definition}
use Rattle.gms_read.specs.declared.draft.DraftEquation.{DraftEquation}
use Rattle.gms_read.specs.declared.draft.Draft.{Draft}
use Rattle.gms_read.specs.declared.draft.DraftVariable.{DraftVariable}
use Rattle.gms_grammar.specs.declared.limit.Limit.{Limit}
use Rattle.gms_read.specs.declared.table.Named.{Named}
use Rattle.gms_read.specs.declared.table.Named.TheVariants.{Variable as VariableName, Equation as EquationName, Model as ModelName}
use Rattle.gms_grammar.specs.declared.fault.ModelFault.{ModelFault}
use Rattle.gms_grammar.specs.Lexemes.{spelling}
use Rattle.gms_grammar.specs.Grammar.{Written, numeral, name, call, listed, grouped, raised, signed, joined, Statement, empty, variables, equations, definition, setting, model, matched, solve}
use Rattle.gms_read.specs.Rules.{Step, and_then, or_else, unless_fault, fault_where, entry_of, declared_as, variable_in, is_model, is_model_entry, is_none, small_whole, exponent, expression_fault, or_zero, second_exponent, meaning, tree_of, first_low, first_high, has_sign, no_variable, variable_at, with_variable, add_variable, add_equation, add_model, restrict, declare_by, declare_variable, declare_equation, declare_all, discrete_fault, declare_model, matches_fault, no_equation, equation_at, with_definition, definition_fault, equation_of, define, is_infinite, with_low, with_high, set_variable, set_equation, set_by, with_goal, aim_at, aim, after, nothing_yet}
use Rattle.gms_print.proofs.Sound.{IsFree, IsValue, SoundExpression, SoundTree, SoundGoal}
use Rattle.gms_print.proofs.GoodTexts.{HasValues, GoodSide, SoundLimit, FreeName, GoodStatement}

-- ---- lists
each_map : {X : Type 0} (P Q : X → Type 0) (xs : List X) → ((x : X) → P x → Q x) → Each P xs → Each Q xs
each_map P Q [] f h = tt
each_map P Q (x ∷ xs) f h = (f x h.0, each_map P Q xs f h.1)

each_insert : {X : Type 0} (P : X → Type 0) (xs ys : List X) (n : X) → Each P (xs ++ ys) → P n → Each P (xs ++ n ∷ ys)
each_insert P [] ys n h k = (k, h)
each_insert P (x ∷ xs) ys n h k = (h.0, each_insert P xs ys n h.1 k)

each_push : {X : Type 0} (P : X → Type 0) (xs : List X) (n : X) → Each P xs → P n → Each P (xs ++ n ∷ [])
each_push P [] n h k = (k, tt)
each_push P (x ∷ xs) n h k = (h.0, each_push P xs n h.1 k)

each_set : {X : Type 0} (P : X → Type 0) (xs : List X) (k : ℕ) (v : X) → Each P xs → P v → Each P (set xs k v)
each_set P [] k v h p = tt
each_set P (x ∷ xs) zero v h p = (p, h.1)
each_set P (x ∷ xs) (suc k) v h p = (h.0, each_set P xs k v h.1 p)

each_at : {X : Type 0} (P : X → Type 0) (xs : List X) (k : ℕ) (v : X) → Each P xs → P v → P (get_or xs k v)
each_at P [] k v h p = p
each_at P (x ∷ xs) zero v h p = h.0
each_at P (x ∷ xs) (suc k) v h p = each_at P xs k v h.1 p

-- what is written over one element and gives the same there gives the same everywhere
same_map : {X Y : Type 0} (f : X → Y) (xs : List X) (k : ℕ) (v d : X) → f v ≡ f (get_or xs k d) → map f (set xs k v) ≡ map f xs
same_map f xs k v d e = map-set f xs k v ∙ ap (set (map f xs) k) e ∙ sym (map-set f xs k (get_or xs k d)) ∙ ap (map f) (set-get_or xs k d)

pub none_is : {X : Type 0} (o : Option X) → is_none o ≡ true → o ≡ None
none_is None h = refl
none_is (Some x) h = absurd (false≢true h)

-- ---- names that differ
abbrev pub Differs : List ℕ → List ℕ → Type 0
Differs a b = lower a ≢ lower b

abbrev pub Apart : List (List ℕ) → Type 0
Apart [] = Unit {0}
Apart (n ∷ ns) = Each (Differs n) ns × Apart ns

apart_insert : (xs ys : List (List ℕ)) (n : List ℕ) → Apart (xs ++ ys) → Each (λ m. Differs m n) (xs ++ ys) → Apart (xs ++ n ∷ ys)
apart_insert [] ys n a e = (each_map (λ m. Differs m n) (Differs n) ys (λ m k q. k (sym q)) e, a)
apart_insert (x ∷ xs) ys n a e = (each_insert (Differs x) xs ys n a.0 e.0, apart_insert xs ys n a.1 e.1)

pub apart_pairs : (ns : List (List ℕ)) → Apart ns → AllPairs Differs ns
apart_pairs [] a i j d h l = absurd (omega arith)
apart_pairs (n ∷ ns) a i zero d h l = absurd (omega arith)
apart_pairs (n ∷ ns) a zero (suc j) d h l = All-from_recursion (Differs n) ns a.0 j d (omega arith)
apart_pairs (n ∷ ns) a (suc i) (suc j) d h l = apart_pairs ns a.1 i j d (omega arith) (omega arith)

-- ---- the table
same_bytes : (bs : List ℕ) → bytes_eq bs bs ≡ true
same_bytes [] = refl
same_bytes (b ∷ bs) = go (eq-eqb b b refl) (same_bytes bs)
  where
    go : {p q : Bool} → p ≡ true → q ≡ true → (p && q) ≡ true
    go p q = cc

apart_bytes : (a b : List ℕ) → bytes_eq a b ≡ false → a ≡ b → ⊥
apart_bytes a b h e = both_ways (bytes_eq a b) h (subst (λ c. bytes_eq a c ≡ true) e (same_bytes a))

none_some : {X P : Type 0} (x : X) → ◌≡◌ {A = Option X} (Some x) None → P
none_some x e = absurd (cc)

absent_push : (es : List (List ℕ × Named)) (e : List ℕ × Named) (key : List ℕ) → entry_of (es ++ e ∷ []) key ≡ None → (entry_of es key ≡ None) × (bytes_eq e.0 key ≡ false)
absent_push [] e key h = go (bytes_eq e.0 key) h
  where
    go : (b : Bool) → cond b (Some e.1) None ≡ None → (◌≡◌ {A = Option Named} None None) × (b ≡ false)
    go true h = none_some e.1 h
    go false h = (refl, refl)
absent_push (f ∷ es) e key h = go (bytes_eq f.0 key) (absent_push es e key) h
  where
    go : (b : Bool) → (entry_of (es ++ e ∷ []) key ≡ None → (entry_of es key ≡ None) × (bytes_eq e.0 key ≡ false)) → cond b (Some f.1) (entry_of (es ++ e ∷ []) key) ≡ None → (cond b (Some f.1) (entry_of es key) ≡ None) × (bytes_eq e.0 key ≡ false)
    go true more h = none_some f.1 h
    go false more h = more h

found_push : (es : List (List ℕ × Named)) (e : List ℕ × Named) (key : List ℕ) (x : Named) → entry_of (es ++ e ∷ []) key ≡ Some x → (entry_of es key ≡ Some x) ⊎ (e.1 ≡ x)
found_push [] e key x h = go (bytes_eq e.0 key) h
  where
    go : (b : Bool) → cond b (Some e.1) None ≡ Some x → (None ≡ Some x) ⊎ (e.1 ≡ x)
    go true h = inr (let z : ◌≡◌ {A = Option Named} (Some e.1) (Some x) = h in cc)
    go false h = inl h
found_push (f ∷ es) e key x h = go (bytes_eq f.0 key) (found_push es e key x) h
  where
    go : (b : Bool) → (entry_of (es ++ e ∷ []) key ≡ Some x → (entry_of es key ≡ Some x) ⊎ (e.1 ≡ x)) → cond b (Some f.1) (entry_of (es ++ e ∷ []) key) ≡ Some x → (cond b (Some f.1) (entry_of es key) ≡ Some x) ⊎ (e.1 ≡ x)
    go true more h = inl h
    go false more h = more h

-- the names are free and differ, and the table has each of them
pub record SoundNames (es : List (List ℕ × Named)) (ns : List (List ℕ)) : Type 0 where
  pub absent : (key : List ℕ) → entry_of es key ≡ None → Each (λ n. lower n ≢ key) ns
  pub free : Each IsFree ns
  pub apart : Apart ns

names_more : (es : List (List ℕ × Named)) (xs ys : List (List ℕ)) (n : List ℕ) (x : Named) → SoundNames es (xs ++ ys) → entry_of es (lower n) ≡ None → IsFree n → SoundNames (es ++ (lower n, x) ∷ []) (xs ++ n ∷ ys)
names_more es xs ys n x s h f = record {
  absent = λ key k. let p = absent_push es (lower n, x) key k in each_insert (λ m. lower m ≢ key) xs ys n (s.absent key p.0) (apart_bytes (lower n) key p.1);
  free = each_insert IsFree xs ys n s.free f;
  apart = apart_insert xs ys n s.apart (s.absent (lower n) h);
}

-- ---- drafts
abbrev pub model_names : Option (List ℕ) → List (List ℕ)
model_names None = []
model_names (Some n) = n ∷ []

abbrev pub names_of : List DraftVariable → List (List ℕ)
names_of vs = map (λ v. v.name) vs

abbrev pub equation_names_of : List DraftEquation → List (List ℕ)
equation_names_of es = map (λ e. e.name) es

abbrev pub draft_names : Draft → List (List ℕ)
draft_names d = names_of d.variables ++ equation_names_of d.equations ++ model_names d.model

abbrev pub SoundLimits : DraftVariable → Type 0
SoundLimits v = SoundLimit v.low × SoundLimit v.high

-- each defined equation has sound sides
abbrev pub SoundSides : ℕ → Option Definition → Type 0
SoundSides count None = Unit {0}
SoundSides count (Some d) = SoundTree count d.left × SoundTree count d.right

abbrev pub SoundEquations : ℕ → List DraftEquation → Type 0
SoundEquations count [] = Unit {0}
SoundEquations count (e ∷ es) = SoundSides count e.definition × SoundEquations count es

pub record IsSound (d : Draft) : Type 0 where
  pub names : SoundNames d.names (draft_names d)
  pub variable : (key : List ℕ) (k : ℕ) → entry_of d.names key ≡ Some (VariableName k) → k < length d.variables
  pub model : (key : List ℕ) → entry_of d.names key ≡ Some ModelName → is_none d.model ≡ false
  pub few_variables : length d.variables ≤ 512
  pub few_equations : length d.equations ≤ 512
  pub limits : Each SoundLimits d.variables
  pub equations : SoundEquations (length d.variables) d.equations
  pub goal : SoundGoal (length d.variables) d.goal

abbrev pub SoundStep : Step → Type 0
SoundStep (Ok d) = IsSound d
SoundStep (Err f) = Unit {0}

pub sound_start : IsSound nothing_yet
sound_start = record {
  names = record { absent = λ key h. tt; free = tt; apart = tt };
  variable = λ key k h. none_some (VariableName k) (sym h);
  model = λ key h. none_some ModelName (sym h);
  few_variables = omega arith;
  few_equations = omega arith;
  limits = tt;
  equations = tt;
  goal = tt;
}

-- ---- more variables
more_expression : (m n : ℕ) (e : Expression) → m ≤ n → SoundExpression m e → SoundExpression n e
more_expression m n (number f) l h = h
more_expression m n (variable_of_number k) l h = omega arith
more_expression m n (negated e) l h = more_expression m n e l h
more_expression m n (joined_with op e f) l h = (more_expression m n e l h.0, more_expression m n f l h.1)
more_expression m n (power e k) l h = (more_expression m n e l h.0, h.1)

more_tree : (m n : ℕ) (t : Tree) → m ≤ n → SoundTree m t → SoundTree n t
more_tree m n t l h = record { expression = h.expression; is = h.is; sound = more_expression m n h.expression l h.sound; shallow = h.shallow }

more_sides : (m n : ℕ) (o : Option Definition) → m ≤ n → SoundSides m o → SoundSides n o
more_sides m n None l h = tt
more_sides m n (Some d) l h = (more_tree m n d.left l h.0, more_tree m n d.right l h.1)

more_equations : (m n : ℕ) (es : List DraftEquation) → m ≤ n → SoundEquations m es → SoundEquations n es
more_equations m n [] l h = tt
more_equations m n (e ∷ es) l h = (more_sides m n e.definition l h.0, more_equations m n es l h.1)

more_goal : (m n : ℕ) (goal : Option (Sense × VarId)) → m ≤ n → SoundGoal m goal → SoundGoal n goal
more_goal m n None l h = tt
more_goal m n (Some (s, v)) l h = omega arith

-- ---- declarations
zero_is_value : IsValue (whole 0)
zero_is_value = (48 ∷ [], (refl, inl refl))

sound_first_low : (k : Domain) → SoundLimit (first_low k)
sound_first_low Free = tt
sound_first_low Positive = inl zero_is_value
sound_first_low Negative = tt
sound_first_low Discrete = tt

sound_first_high : (k : Domain) → SoundLimit (first_high k)
sound_first_high Free = tt
sound_first_high Positive = tt
sound_first_high Negative = inl zero_is_value
sound_first_high Discrete = tt

add_variable_sound : (text : List ℕ) (k : Domain) (d : Draft) (t : Lexeme) → IsSound d → FreeName text t → declared_as text d t ≡ None → length d.variables < 512 → IsSound (add_variable text k d t)
add_variable_sound text k d t s f h l =
    let n = spelling text t in
    let v : DraftVariable = record { name = n; low = first_low k; high = first_high k; signed = has_sign k } in
    let vn = names_of d.variables in
    let en = equation_names_of d.equations in
    let mn = model_names d.model in
    let size : length (d.variables ++ v ∷ []) ≡ length d.variables + 1 = length_push d.variables v in
    let grown : length d.variables ≤ length (d.variables ++ v ∷ []) = omega arith in
    let old : SoundNames d.names (vn ++ (en ++ mn)) = subst (SoundNames d.names) (append_assoc vn en mn) s.names in
    let more : SoundNames (d.names ++ (lower n, VariableName (length d.variables)) ∷ []) (vn ++ n ∷ (en ++ mn)) = names_more d.names vn (en ++ mn) n (VariableName (length d.variables)) old h f in
    let e : vn ++ n ∷ (en ++ mn) ≡ names_of (d.variables ++ v ∷ []) ++ en ++ mn =
    sym (append_assoc vn (n ∷ []) (en ++ mn)) ∙ sym (append_assoc (vn ++ n ∷ []) en mn) ∙ sym (ap (λ z. z ++ en ++ mn) (map_push (λ (v : DraftVariable). v.name) d.variables v)) in
    record {
      names = subst (SoundNames (d.names ++ (lower n, VariableName (length d.variables)) ∷ [])) e more;
      variable = λ key j q. found key j (found_push d.names (lower n, VariableName (length d.variables)) key (VariableName j) q) size;
      model = λ key q. whole_model key (found_push d.names (lower n, VariableName (length d.variables)) key ModelName q);
      few_variables = omega arith;
      few_equations = s.few_equations;
      limits = each_push SoundLimits d.variables v s.limits (sound_first_low k, sound_first_high k);
      equations = more_equations (length d.variables) (length (d.variables ++ v ∷ [])) d.equations grown s.equations;
      goal = more_goal (length d.variables) (length (d.variables ++ v ∷ [])) d.goal grown s.goal;
    }
  where
    found : {m : ℕ} (key : List ℕ) (j : ℕ) → (entry_of d.names key ≡ Some (VariableName j)) ⊎ (VariableName (length d.variables) ≡ VariableName j) → m ≡ length d.variables + 1 → j < m
    found key j (inl q) z = let a : j < length d.variables = s.variable key j q in omega arith
    found key j (inr q) z = let a : length d.variables ≡ j = cc in omega arith

    whole_model : (key : List ℕ) → (entry_of d.names key ≡ Some ModelName) ⊎ (VariableName (length d.variables) ≡ ModelName) → is_none d.model ≡ false
    whole_model key (inl q) = s.model key q
    whole_model key (inr q) = absurd (cc)

push_equation : (count : ℕ) (es : List DraftEquation) (n : List ℕ) → SoundEquations count es → SoundEquations count (es ++ (record { name = n; definition = None }) ∷ [])
push_equation count [] n h = (tt, tt)
push_equation count (f ∷ es) n h = (h.0, push_equation count es n h.1)

add_equation_sound : (text : List ℕ) (d : Draft) (t : Lexeme) → IsSound d → FreeName text t → declared_as text d t ≡ None → length d.equations < 512 → IsSound (add_equation text d t)
add_equation_sound text d t s f h l =
    let n = spelling text t in
    let e : DraftEquation = record { name = n; definition = None } in
    let vn = names_of d.variables in
    let en = equation_names_of d.equations in
    let mn = model_names d.model in
    let size : length (d.equations ++ e ∷ []) ≡ length d.equations + 1 = length_push d.equations e in
    let more : SoundNames (d.names ++ (lower n, EquationName (length d.equations)) ∷ []) (vn ++ en ++ n ∷ mn) = names_more d.names (vn ++ en) mn n (EquationName (length d.equations)) s.names h f in
    let q : vn ++ en ++ n ∷ mn ≡ vn ++ equation_names_of (d.equations ++ e ∷ []) ++ mn =
    sym (append_assoc (vn ++ en) (n ∷ []) mn) ∙ ap (λ z. z ++ mn) (append_assoc vn en (n ∷ [])) ∙ sym (ap (λ z. vn ++ z ++ mn) (map_push (λ (e : DraftEquation). e.name) d.equations e)) in
    record {
      names = subst (SoundNames (d.names ++ (lower n, EquationName (length d.equations)) ∷ [])) q more;
      variable = λ key j r. found key j (found_push d.names (lower n, EquationName (length d.equations)) key (VariableName j) r);
      model = λ key r. whole_model key (found_push d.names (lower n, EquationName (length d.equations)) key ModelName r);
      few_variables = s.few_variables;
      few_equations = omega arith;
      limits = s.limits;
      equations = push_equation (length d.variables) d.equations n s.equations;
      goal = s.goal;
    }
  where
    found : (key : List ℕ) (j : ℕ) → (entry_of d.names key ≡ Some (VariableName j)) ⊎ (EquationName (length d.equations) ≡ VariableName j) → j < length d.variables
    found key j (inl q) = s.variable key j q
    found key j (inr q) = absurd (cc)

    whole_model : (key : List ℕ) → (entry_of d.names key ≡ Some ModelName) ⊎ (EquationName (length d.equations) ≡ ModelName) → is_none d.model ≡ false
    whole_model key (inl q) = s.model key q
    whole_model key (inr q) = absurd (cc)

add_model_sound : (text : List ℕ) (d : Draft) (t : Lexeme) → IsSound d → FreeName text t → declared_as text d t ≡ None → d.model ≡ None → IsSound (add_model text d t)
add_model_sound text d t s f h l =
    let n = spelling text t in
    let vn = names_of d.variables in
    let en = equation_names_of d.equations in
    let old : SoundNames d.names (vn ++ en ++ []) = subst (λ m. SoundNames d.names (vn ++ en ++ model_names m)) l s.names in
    record {
      names = names_more d.names (vn ++ en) [] n ModelName old h f;
      variable = λ key j r. found key j (found_push d.names (lower n, ModelName) key (VariableName j) r);
      model = λ key r. refl;
      few_variables = s.few_variables;
      few_equations = s.few_equations;
      limits = s.limits;
      equations = s.equations;
      goal = s.goal;
    }
  where
    found : (key : List ℕ) (j : ℕ) → (entry_of d.names key ≡ Some (VariableName j)) ⊎ (ModelName ≡ VariableName j) → j < length d.variables
    found key j (inl q) = s.variable key j q
    found key j (inr q) = absurd (cc)

-- ---- changes of a variable
variable_limits : (d : Draft) (k : ℕ) → IsSound d → SoundLimits (variable_at d k)
variable_limits d k s = each_at SoundLimits d.variables k no_variable s.limits (tt, tt)

with_variable_sound : (d : Draft) (k : ℕ) (v : DraftVariable) → IsSound d → v.name ≡ (variable_at d k).name → SoundLimits v → IsSound (with_variable d k v)
with_variable_sound d k v s e h =
    let size : length d.variables ≡ length (set d.variables k v) = sym (length-set d.variables k v) in
    record {
      names = subst (λ ns. SoundNames d.names (ns ++ equation_names_of d.equations ++ model_names d.model)) (sym (same_map (λ (v : DraftVariable). v.name) d.variables k v no_variable e)) s.names;
      variable = λ key j q. subst (λ n. j < n) size (s.variable key j q);
      model = s.model;
      few_variables = subst (λ n. n ≤ 512) size s.few_variables;
      few_equations = s.few_equations;
      limits = each_set SoundLimits d.variables k v s.limits h;
      equations = subst (λ n. SoundEquations n d.equations) size s.equations;
      goal = subst (λ n. SoundGoal n d.goal) size s.goal;
    }

-- ---- definitions
set_equations : (count : ℕ) (es : List DraftEquation) (k : ℕ) (e : DraftEquation) → SoundEquations count es → SoundSides count e.definition → SoundEquations count (set es k e)
set_equations count [] k e h s = tt
set_equations count (f ∷ es) zero e h s = (s, h.1)
set_equations count (f ∷ es) (suc k) e h s = (h.0, set_equations count es k e h.1 s)

small_exponent : (f : Frac) → or_zero (exponent f) ≤ 9
small_exponent f = go f.num f.den
  where
    go : (n d : ℤ) → or_zero (small_whole n d) ≤ 9
    go (pos n) (pos zero) = omega arith
    go (pos n) (pos (suc zero)) = cond_both (nat_le n 9) (Some n) None (λ o. or_zero o ≤ 9) (λ h. leb-true n 9 h) (λ _. omega arith)
    go (pos n) (pos (suc (suc m))) = omega arith
    go (pos n) (negsuc m) = omega arith
    go (negsuc n) d = omega arith

small_second : (e : Written) → second_exponent e ≤ 9
small_second (listed a (numeral t f)) = small_exponent f
small_second e = omega arith

or_else_parts : (a b : Option ModelFault) → or_else a b ≡ None → (a ≡ None) × (b ≡ None)
or_else_parts None b h = (refl, h)
or_else_parts (Some f) b h = none_some f h

module _ (text : List ℕ) (d : Draft) (s : IsSound d) where
  sound_name : (key : List ℕ) (o : Option Named) (f : ModelFault) → entry_of d.names key ≡ o → fault_where (is_none (variable_in o)) f ≡ None → or_zero (variable_in o) < length d.variables
  sound_name key None f q h = none_some f h
  sound_name key (Some (VariableName k)) f q h = s.variable key k q
  sound_name key (Some (EquationName k)) f q h = none_some f h
  sound_name key (Some ModelName) f q h = none_some f h

  sound_meaning : (e : Written) → HasValues e → expression_fault text d e ≡ None → SoundExpression (length d.variables) (meaning text d e)
  sound_meaning (numeral t f) v h = v
  sound_meaning (name t) v h = sound_name (lower (spelling text t)) (declared_as text d t) _ refl h
  sound_meaning (call t a) v h = (sound_meaning a v (or_else_parts _ _ h).1, small_second a)
  sound_meaning (listed a b) v h = sound_meaning a v.0 (or_else_parts _ _ h).0
  sound_meaning (grouped e) v h = sound_meaning e v h
  sound_meaning (raised e p f) v h = (sound_meaning e v (or_else_parts _ _ h).0, small_exponent f)
  sound_meaning (signed Plus t e) v h = sound_meaning e v h
  sound_meaning (signed Minus t e) v h = sound_meaning e v h
  sound_meaning (joined op t e f) v h = let p = or_else_parts _ _ h in (sound_meaning e v.0 p.0, sound_meaning f v.1 p.1)

  sound_side : (e : Written) → GoodSide text e → expression_fault text d e ≡ None → SoundTree (length d.variables) (tree_of text d e)
  sound_side e g h = record { expression = meaning text d e; is = refl; sound = sound_meaning e g.values h; shallow = g.shallow d }

  with_definition_sound : (k : ℕ) (left : Written) (r : Relation) (right : Written) → SoundTree (length d.variables) (tree_of text d left) → SoundTree (length d.variables) (tree_of text d right) → IsSound (with_definition text d k left r right)
  with_definition_sound k left r right a b =
      let e : DraftEquation = record { name = (equation_at d k).name; definition = Some (record { left = tree_of text d left; relation = r; right = tree_of text d right }) } in
      record {
        names = subst (λ ns. SoundNames d.names (names_of d.variables ++ ns ++ model_names d.model)) (sym (same_map (λ (e : DraftEquation). e.name) d.equations k e no_equation refl)) s.names;
        variable = s.variable;
        model = s.model;
        few_variables = s.few_variables;
        few_equations = subst (λ n. n ≤ 512) (sym (length-set d.equations k e)) s.few_equations;
        limits = s.limits;
        equations = set_equations (length d.variables) d.equations k e s.equations (a, b);
        goal = s.goal;
      }

  unless_sound : (a b c : Option ModelFault) (e : Draft) → (b ≡ None → c ≡ None → IsSound e) → SoundStep (unless_fault (or_else a (or_else b c)) (Ok e))
  unless_sound (Some f) b c e h = tt
  unless_sound None (Some f) c e h = tt
  unless_sound None None (Some f) e h = tt
  unless_sound None None None e h = h refl refl

  define_sound : (t : Lexeme) (left : Written) (r : Relation) (right : Written) → GoodSide text left → GoodSide text right → SoundStep (define text d t left r right)
  define_sound t left r right g h =
      unless_sound (definition_fault d t (equation_of text d t)) (expression_fault text d left) (expression_fault text d right) (with_definition text d (or_zero (equation_of text d t)) left r right)
      (λ p q. with_definition_sound (or_zero (equation_of text d t)) left r right (sound_side left g p) (sound_side right h q))

-- ---- settings
with_low_sound : (d : Draft) (k : ℕ) (limit : Limit) → IsSound d → SoundLimit limit → IsSound (with_low d k limit)
with_low_sound d k limit s h = with_variable_sound d k (record { name = (variable_at d k).name; low = limit; high = (variable_at d k).high; signed = (variable_at d k).signed }) s refl (h, (variable_limits d k s).1)

with_high_sound : (d : Draft) (k : ℕ) (limit : Limit) → IsSound d → SoundLimit limit → IsSound (with_high d k limit)
with_high_sound d k limit s h = with_variable_sound d k (record { name = (variable_at d k).name; low = (variable_at d k).low; high = limit; signed = (variable_at d k).signed }) s refl ((variable_limits d k s).0, h)

set_variable_sound : (d : Draft) (k : ℕ) (place : Place) (r : Sort) (limit : Limit) → IsSound d → SoundLimit limit → SoundStep (set_variable d k place r limit)
set_variable_sound d k place (Name Low) limit s h = with_low_sound d k limit s h
set_variable_sound d k place (Name High) limit s h = with_high_sound d k limit s h
set_variable_sound d k place (Name Fixed) limit s h = cond_both (is_infinite limit) (Err _) (Ok (with_high (with_low d k limit) k limit)) SoundStep (λ _. tt) (λ _. with_high_sound (with_low d k limit) k limit (with_low_sound d k limit s h) h)
set_variable_sound d k place (Name LevelWord) limit s h = s
set_variable_sound d k place (Name Marginal) limit s h = s
set_variable_sound d k place r limit s h = tt

set_equation_sound : (d : Draft) (place : Place) (r : Sort) → IsSound d → SoundStep (set_equation d place r)
set_equation_sound d place (Name LevelWord) s = s
set_equation_sound d place (Name Marginal) s = s
set_equation_sound d place r s = tt

set_by_sound : (d : Draft) (t a : Lexeme) (limit : Limit) (o : Option Named) → IsSound d → SoundLimit limit → SoundStep (set_by d t a limit o)
set_by_sound d t a limit (Some (VariableName k)) s h = set_variable_sound d k a.place a.sort limit s h
set_by_sound d t a limit (Some (EquationName k)) s h = set_equation_sound d a.place a.sort s
set_by_sound d t a limit (Some ModelName) s h = s
set_by_sound d t a limit None s h = tt

-- ---- names of statements
restrict_sound : (k : Domain) (d : Draft) (t : Lexeme) (at : ℕ) → IsSound d → SoundStep (restrict k d t at)
restrict_sound k d t at s =
    let v : DraftVariable = record { name = (variable_at d at).name; low = first_low k; high = first_high k; signed = true } in
    cond_both (has_sign k && not (variable_at d at).signed) (Ok (with_variable d at v)) (Err _) SoundStep (λ _. with_variable_sound d at v s refl (sound_first_low k, sound_first_high k)) (λ _. tt)

declare_by_sound : (text : List ℕ) (k : Domain) (d : Draft) (t : Lexeme) (o : Option Named) → declared_as text d t ≡ o → IsSound d → FreeName text t → SoundStep (declare_by text k d t o)
declare_by_sound text k d t None q s f = cond_both (nat_lt (length d.variables) 512) (Ok (add_variable text k d t)) (Err _) SoundStep (λ h. add_variable_sound text k d t s f q (ltb-true (length d.variables) 512 h)) (λ _. tt)
declare_by_sound text k d t (Some (VariableName at)) q s f = restrict_sound k d t at s
declare_by_sound text k d t (Some (EquationName at)) q s f = tt
declare_by_sound text k d t (Some ModelName) q s f = tt

declare_equation_sound : (text : List ℕ) (d : Draft) (t : Lexeme) → IsSound d → FreeName text t → SoundStep (declare_equation text d t)
declare_equation_sound text d t s f =
    cond_both (is_none (declared_as text d t)) (cond (nat_lt (length d.equations) 512) (Ok (add_equation text d t)) (Err _)) (Err _) SoundStep
    (λ n. cond_both (nat_lt (length d.equations) 512) (Ok (add_equation text d t)) (Err _) SoundStep (λ h. add_equation_sound text d t s f (none_is (declared_as text d t) n) (ltb-true (length d.equations) 512 h)) (λ _. tt))
    (λ _. tt)

declare_model_sound : (text : List ℕ) (d : Draft) (t : Lexeme) → IsSound d → FreeName text t → SoundStep (declare_model text d t)
declare_model_sound text d t s f =
    cond_both (is_none d.model && is_none (declared_as text d t)) (Ok (add_model text d t)) (Err _) SoundStep
    (λ h. let p = and_parts (is_none d.model) (is_none (declared_as text d t)) h in add_model_sound text d t s f (none_is (declared_as text d t) p.1) (none_is d.model p.0))
    (λ _. tt)

then_sound : (r : Step) (following : Draft → Step) → SoundStep r → ((e : Draft) → IsSound e → SoundStep (following e)) → SoundStep (and_then r following)
then_sound (Ok d) following h k = k d h
then_sound (Err f) following h k = tt

declare_all_sound : (P : Lexeme → Type 0) (one : Draft → Lexeme → Step) → ((d : Draft) (t : Lexeme) → IsSound d → P t → SoundStep (one d t)) → (d : Draft) (ts : List Lexeme) → IsSound d → Each P ts → SoundStep (declare_all one d ts)
declare_all_sound P one f d [] s h = s
declare_all_sound P one f d (t ∷ ts) s h = then_sound (one d t) (λ e. declare_all one e ts) (f d t s h.0) (λ e k. declare_all_sound P one f e ts k h.1)

-- ---- statements
unless_one : (o : Option ModelFault) (r : Step) → SoundStep r → SoundStep (unless_fault o r)
unless_one None r h = h
unless_one (Some f) r h = tt

with_goal_sound : (d : Draft) (s : Sense) (k : ℕ) → IsSound d → k < length d.variables → IsSound (with_goal d (Some (s, record { at = k })))
with_goal_sound d s k h l = record { names = h.names; variable = h.variable; model = h.model; few_variables = h.few_variables; few_equations = h.few_equations; limits = h.limits; equations = h.equations; goal = l }

without_goal_sound : (d : Draft) → IsSound d → IsSound (with_goal d None)
without_goal_sound d h = record { names = h.names; variable = h.variable; model = h.model; few_variables = h.few_variables; few_equations = h.few_equations; limits = h.limits; equations = h.equations; goal = tt }

-- behind the solve statement there is a model
abbrev pub SoundEnd : Step → Type 0
SoundEnd (Ok d) = IsSound d × (is_none d.model ≡ false)
SoundEnd (Err f) = Unit {0}

aim_at_sound : (d : Draft) (s : Sense) (t : Lexeme) (key : List ℕ) (o : Option Named) → entry_of d.names key ≡ o → IsSound d → is_none d.model ≡ false → SoundEnd (aim_at d s t (variable_in o))
aim_at_sound d s t key None q h m = tt
aim_at_sound d s t key (Some (VariableName k)) q h m = (with_goal_sound d s k h (h.variable key k q), m)
aim_at_sound d s t key (Some (EquationName k)) q h m = tt
aim_at_sound d s t key (Some ModelName) q h m = tt

aim_sound : (text : List ℕ) (d : Draft) (goal : Option (Sense × Lexeme)) → IsSound d → is_none d.model ≡ false → SoundEnd (aim text d goal)
aim_sound text d None h m = (without_goal_sound d h, m)
aim_sound text d (Some (s, t)) h m = aim_at_sound d s t (lower (spelling text t)) (declared_as text d t) refl h m

has_model : (d : Draft) (key : List ℕ) (o : Option Named) → entry_of d.names key ≡ o → IsSound d → is_model_entry o ≡ true → is_none d.model ≡ false
has_model d key None q h m = absurd (false≢true m)
has_model d key (Some (VariableName k)) q h m = absurd (false≢true m)
has_model d key (Some (EquationName k)) q h m = absurd (false≢true m)
has_model d key (Some ModelName) q h m = h.model key q

pub solve_sound : (text : List ℕ) (d : Draft) (t : Lexeme) (goal : Option (Sense × Lexeme)) → IsSound d → SoundEnd (after text d (solve t goal))
solve_sound text d t goal h = cond_both (is_model text d t) (aim text d goal) (Err _) SoundEnd (λ m. aim_sound text d goal h (has_model d (lower (spelling text t)) (declared_as text d t) refl h m)) (λ _. tt)

end_sound : (r : Step) → SoundEnd r → SoundStep r
end_sound (Ok d) h = h.0
end_sound (Err f) h = tt

pub after_sound : (text : List ℕ) (d : Draft) (s : Statement) → IsSound d → GoodStatement text s → SoundStep (after text d s)
after_sound text d empty h g = h
after_sound text d (variables k w names) h g =
    unless_one (discrete_fault k w) (declare_all (declare_variable text k) d names)
    (declare_all_sound (FreeName text) (declare_variable text k) (λ e t i f. declare_by_sound text k e t (declared_as text e t) refl i f) d names h g)
after_sound text d (equations names) h g = declare_all_sound (FreeName text) (declare_equation text) (declare_equation_sound text) d names h g
after_sound text d (definition t left r right) h g = define_sound text d h t left r right g.0 g.1
after_sound text d (setting t a limit) h g = set_by_sound d t a limit (declared_as text d t) h g
after_sound text d (model t) h g = declare_model_sound text d t h g
after_sound text d (matched t qs) h g = then_sound (declare_model text d t) (λ e. unless_fault (matches_fault text e qs) (Ok e)) (declare_model_sound text d t h g) (λ e k. unless_one (matches_fault text e qs) (Ok e) k)
after_sound text d (solve t goal) h g = end_sound (after text d (solve t goal)) (solve_sound text d t goal h)
