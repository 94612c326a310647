-- The search from the root.
use Rattle.std.proofs.Common.{◌≡◌, ℕ, zero, suc, ◌-◌, ◌<◌, ◌≤◌, [], length, get_or, replicate, arith, refl, sym, subst, ◌∙◌}
use Rattle.std.proofs.lemmas.List.{length-replicate}
use Rattle.emp_rows.specs.declared.system.RowSystem.{RowSystem}
use Rattle.emp_dict.specs.declared.label.Mark.TheVariants.{Unasked, Required, Fixed}
use Rattle.emp_dict.specs.Dictionary.{Dictionary}
use Rattle.emp_dict.proofs.Starts.{length-bases, base_at, starts_tell}
use Rattle.emp_step.specs.declared.outcome.Outcome.TheVariants.{Held, Empty, Best, Ray}
use Rattle.emp_step.specs.Steps.{End, ended, too_wide, spent}
use Rattle.emp_step.specs.Levels.{MayBeColumn, IsLevel}
use Rattle.emp_decide.specs.Laws.{started_of}
use Rattle.emp_search.specs.Search.{asks_from, asked, closed, found, wide_at, out_of_units, Searched, first_state, search_from, search_of}
use Rattle.emp_search.specs.Nodes.{IsNode, IsAsked}
use Rattle.emp_search.specs.Shown.{SearchShows}
use Rattle.emp_search.proofs.Working.{AllDone, AskedAs, Halfway, root_asks}
use Rattle.emp_search.proofs.Showing.{ComesTo, searched_comes}

-- ---- the start
pub unasked_at : (n i : ℕ) → get_or (replicate n Unasked) i Unasked ≡ Unasked
unasked_at zero i = refl
unasked_at (suc n) zero = refl
unasked_at (suc n) (suc i) = unasked_at n i

pub start_level : (s : RowSystem) → IsLevel (started_of s)
start_level s = record {
  columns = λ j h. subst (MayBeColumn (started_of s)) (sym (base_at 1 s.base j (let l = length-bases 1 s.base in omega arith))) tt;
  required = λ i k b e m. let u = unasked_at (length s.quantities) (k - 1) in let z : Unasked ≡ Required = sym u ∙ m in absurd (cc);
  fixed = λ i k b e m. let u = unasked_at (length s.quantities) (k - 1) in let z : Unasked ≡ Fixed = sym u ∙ m in absurd (cc);
  still = λ i k j b e m l f. let u = unasked_at (length s.quantities) (k - 1) in let z : Unasked ≡ Fixed = sym u ∙ m in absurd (cc);
}

pub start_node : (s : RowSystem) → IsNode s [] (started_of s)
start_node s = record {
  dictionary = record {
    sound = (starts_tell s.base s.quantities s.objective s.sound.few_variables s.sound.few_quantities s.sound.rows s.sound.objective_row).sound;
    rows = refl;
    columns = length-bases 1 s.base;
    marks = length-replicate (length s.quantities) Unasked;
    solutions = λ c f. (λ h. h, λ h. h);
  };
  level = start_level s;
  on = λ k a m. let u = unasked_at (length s.quantities) (k - 1) in let z : Unasked ≡ Fixed = sym u ∙ m in absurd (cc);
}

halfway : (s : RowSystem) → Halfway s 1 (started_of s)
halfway s = record { before = λ q a b. absurd (omega arith); after = λ q b. unasked_at (length s.quantities) (q - 1) }

done : (s : RowSystem) (d : Dictionary) (e : End) → AskedAs s [] (λ x. (q : ℕ) → 0 < q → q ≤ length s.quantities → IsAsked s x q) d e → AskedAs s [] (AllDone s []) d e
done s d (ended Held) h = (h.0, (h.1, tt))
done s d (ended (Empty r)) h = h
done s d (ended (Best r)) h = h
done s d (ended (Ray j up)) h = h
done s d too_wide h = tt
done s d spent h = tt

pub root_asked : (s : RowSystem) (n : ℕ) → AskedAs s [] (AllDone s []) (asked (asks_from 1 s.kinds) n (started_of s)).dictionary (asked (asks_from 1 s.kinds) n (started_of s)).end
root_asked s n = done s (asked (asks_from 1 s.kinds) n (started_of s)).dictionary (asked (asks_from 1 s.kinds) n (started_of s)).end (root_asks s s.kinds 1 n (started_of s) (omega arith) refl (let o = s.sound.one_kind_each in omega arith) (start_node s) (halfway s))

pub searches_from_show : (s : RowSystem) (limit left nodes : ℕ) → SearchShows s (search_from s limit left nodes)
searches_from_show s limit left nodes = go (search_from s limit left nodes) (searched_comes s limit limit [] (asks_from 1 s.kinds) (started_of s) (first_state left nodes) (root_asked s) tt)
  where
    go : (r : Searched) → ComesTo s [] (first_state left nodes) r → SearchShows s r
    go (closed st) h = record { tree = h.tree; written = h.written; shows = h.shows; best = h.best }
    go (found f st) h = h
    go (wide_at n p) h = tt
    go out_of_units h = tt

pub searches_show : (s : RowSystem) (limit : ℕ) → SearchShows s (search_of s limit)
searches_show s limit = searches_from_show s limit limit 0
