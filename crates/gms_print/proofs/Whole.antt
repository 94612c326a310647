-- The canonical text of a model stands for it, places aside.
use Rattle.std.proofs.Common.{◌≡◌, ℕ, ◌+◌, List, [], ◌∷◌, ◌++◌, length, All, codes, refl, sym, ap, subst, ◌∙◌, arith, append_assoc}
use Rattle.std.proofs.lemmas.List.{length-append, length-map, get_or_append_left, get_or-append-add}
use Rattle.emp_list.specs.Case.{lower}
use Rattle.emp_ast.specs.declared.model.Model.{Model}
use Rattle.emp_ast.specs.Names.{variable_names, equation_names}
use Rattle.gms_grammar.specs.declared.lexeme.Lexeme.{Lexeme}
use Rattle.gms_grammar.specs.Grammar.{Statement}
use Rattle.gms_read.specs.Texts.{HasLexemes}
use Rattle.gms_print.specs.Canonical.{names_line, goal_text, IsCanonical}
use Rattle.gms_print.specs.ReadsBack.{ReadsBack}
use Rattle.gms_print.proofs.Pieces.{rendered}
use Rattle.gms_print.proofs.Sound.{IsFree, SoundEquation, SoundGoal, Sound}
use Rattle.gms_print.proofs.Effects.{DeclaresVariables, DeclaresEquations, AreDefinitions, AreBounds, AreStatements, fitting, means_model}
use Rattle.gms_print.proofs.Cutting.{cut}
use Rattle.gms_print.proofs.NamesLines.{variables_line, equations_line}
use Rattle.gms_print.proofs.EquationLines.{definition_lines}
use Rattle.gms_print.proofs.BoundLines.{numerals_read, bound_lines}
use Rattle.gms_print.proofs.LastLines.{ReadsFile, Ends, Before, before, NamesModel, model_line, Solves, solve_line}

-- ---- the parts of a list
all_front : {X : Type 0} (P : X → Type 0) (xs ys : List X) → All P (xs ++ ys) → All P xs
all_front P xs ys h = λ k d l. subst P (get_or_append_left xs ys d k l) (h k d (omega (arith, l, length-append xs ys)))

all_behind : {X : Type 0} (P : X → Type 0) (xs ys : List X) → All P (xs ++ ys) → All P ys
all_behind P xs ys h = λ k d l. subst P (get_or-append-add xs ys k d) (h (length xs + k) d (omega (arith, l, length-append xs ys)))

-- ---- the whole text
abbrev pub Parts : Model → List ℕ → List Statement → Type 0
Parts m text ss =
    Before (λ ss. DeclaresVariables text (variable_names m) ss)
    (λ ss. Before (λ ss. DeclaresEquations text (equation_names m) ss)
    (λ ss. Before (λ ss. AreDefinitions (variable_names m) text m.equations ss)
    (λ ss. Before (λ ss. AreBounds text m.variables ss)
    (λ ss. Before (λ ss. NamesModel text m.name ss) (λ ss. Solves text m.name (variable_names m) m.goal ss) ss)
    ss)
    ss)
    ss)
    ss

statements : (m : Model) (text : List ℕ) (ss : List Statement) → Parts m text ss → AreStatements m text ss
statements m text ss p =
    let q = p.are_back in
    let r = q.are_back in
    let s = r.are_back in
    let t = s.are_back in
    record {
      declared_variables = p.front;
      declared_equations = q.front;
      definitions = r.front;
      bounds = s.front;
      named = t.are_front.lexeme;
      solved = t.are_back.lexeme;
      goal = t.are_back.goal;
      declares_variables = p.are_front;
      declares_equations = q.are_front;
      defines = r.are_front;
      sets = s.are_front;
      names = t.are_front.spelled;
      solves = ap lower t.are_back.spelled;
      aims = t.are_back.aims;
      is =
          p.is
          ∙ ap (λ x. p.front ++ x) (q.is ∙ ap (λ x. q.front ++ x) (r.is ∙ ap (λ x. r.front ++ x) (s.is ∙ ap (λ x. s.front ++ x) (t.is ∙ (λ i. t.are_front.is i ++ t.are_back.is i)))));
    }

text_bytes : (v e q b model_word name all solve_word using_ goal end : List ℕ) → v ++ (e ++ (q ++ (b ++ (model_word ++ name ++ all ++ (solve_word ++ name ++ using_ ++ goal ++ end))))) ≡ v ++ e ++ q ++ b ++ (model_word ++ name ++ (all ++ solve_word) ++ name ++ using_ ++ goal ++ end)
text_bytes v e q b model_word name all solve_word using_ goal end = simp append_assoc refl

ends : (m : Model) (text : List ℕ) → Sound m → IsCanonical m text → Ends text (λ t ss. Parts m t ss)
ends m text s c =
    let vs = variable_names m in
    let es = equation_names m in
    let size : length (variable_names m) ≡ length m.variables = length-map m.variables (λ v. v.name) in
    let named : All IsFree (variable_names m ++ equation_names m) = all_front IsFree (vs ++ es) (m.name ∷ []) s.free in
    let free_variables : All IsFree (variable_names m) = all_front IsFree vs es named in
    let free_equations : All IsFree (equation_names m) = all_behind IsFree vs es named in
    let own : All IsFree (m.name ∷ []) = all_behind IsFree (vs ++ es) (m.name ∷ []) s.free in
    let free : IsFree m.name = own 0 [] (omega arith) in
    let last_line = solve_line m.name vs m.goal free free_variables (subst (λ n. SoundGoal n m.goal) (sym size) s.goal) in
    let whole =
    before (names_line (codes "Variables ") vs) (names_line (codes "Equations ") es ++ (c.equations ++ (c.bounds ++ (codes "Model " ++ m.name ++ codes " / all /;\n" ++ (codes "Solve " ++ m.name ++ codes " using EMP" ++ goal_text vs m.goal ++ codes ";\n"))))) (λ t ss. DeclaresVariables t (variable_names m) ss)
    (λ t ss. Before (λ ss. DeclaresEquations t (equation_names m) ss) (λ ss. Before (λ ss. AreDefinitions (variable_names m) t m.equations ss) (λ ss. Before (λ ss. AreBounds t m.variables ss) (λ ss. Before (λ ss. NamesModel t m.name ss) (λ ss. Solves t m.name (variable_names m) m.goal ss) ss) ss) ss) ss)
    (variables_line vs free_variables)
    (before (names_line (codes "Equations ") es) (c.equations ++ (c.bounds ++ (codes "Model " ++ m.name ++ codes " / all /;\n" ++ (codes "Solve " ++ m.name ++ codes " using EMP" ++ goal_text vs m.goal ++ codes ";\n")))) (λ t ss. DeclaresEquations t (equation_names m) ss)
    (λ t ss. Before (λ ss. AreDefinitions (variable_names m) t m.equations ss) (λ ss. Before (λ ss. AreBounds t m.variables ss) (λ ss. Before (λ ss. NamesModel t m.name ss) (λ ss. Solves t m.name (variable_names m) m.goal ss) ss) ss) ss)
    (equations_line es free_equations)
    (before c.equations (c.bounds ++ (codes "Model " ++ m.name ++ codes " / all /;\n" ++ (codes "Solve " ++ m.name ++ codes " using EMP" ++ goal_text vs m.goal ++ codes ";\n"))) (λ t ss. AreDefinitions (variable_names m) t m.equations ss)
    (λ t ss. Before (λ ss. AreBounds t m.variables ss) (λ ss. Before (λ ss. NamesModel t m.name ss) (λ ss. Solves t m.name (variable_names m) m.goal ss) ss) ss)
    (definition_lines vs numerals_read free_variables m.equations c.equations c.equation_lines free_equations (subst (λ n. All (SoundEquation n) m.equations) (sym size) s.equations))
    (before c.bounds (codes "Model " ++ m.name ++ codes " / all /;\n" ++ (codes "Solve " ++ m.name ++ codes " using EMP" ++ goal_text vs m.goal ++ codes ";\n")) (λ t ss. AreBounds t m.variables ss)
    (λ t ss. Before (λ ss. NamesModel t m.name ss) (λ ss. Solves t m.name (variable_names m) m.goal ss) ss)
    (bound_lines m.variables c.bounds c.bound_lines free_variables s.variables)
    (before (codes "Model " ++ m.name ++ codes " / all /;\n") (codes "Solve " ++ m.name ++ codes " using EMP" ++ goal_text vs m.goal ++ codes ";\n") (λ t ss. NamesModel t m.name ss) (λ t ss. Solves t m.name (variable_names m) m.goal ss) (model_line m.name free) last_line)))) in
    subst (λ x. Ends x (λ t ss. Parts m t ss))
    (text_bytes (names_line (codes "Variables ") vs) (names_line (codes "Equations ") es) c.equations c.bounds (codes "Model ") m.name (codes " / all /;\n") (codes "Solve ") (codes " using EMP") (goal_text vs m.goal) (codes ";\n") ∙ sym c.is)
    whole

stands : (m : Model) (text : List ℕ) → Sound m → (ts : List Lexeme) → HasLexemes text ts → ReadsFile (λ ss. Parts m text ss) ts → ReadsBack text m
stands m text s ts h r =
    let means = means_model m text r.statements (fitting s) (statements m text r.statements r.are) in
    record {
      model = means.model;
      is = record { statements = r.statements; has = record { lexemes = ts; has = h; level = r.level; file = r.file }; is = means.is };
      same = means.same;
    }

pub reads_back : (m : Model) (text : List ℕ) → Sound m → IsCanonical m text → ReadsBack text m
reads_back m text s c =
    let e = ends m text s c in
    let p = cut e.pieces e.good in
    subst (λ x. ReadsBack x m) e.is (stands m (rendered e.pieces) s p.0 p.1 (e.reads (rendered e.pieces) p.0 p.2))
