use Rattle.std.proofs.Common.{ℕ, ◌≡◌, List, ◌++◌, Option, None, Some, arith, length, take, sym, ap, ◌∙◌}
use Rattle.std.specs.Io.KnownBytes.{Consumes}
use lib.Seq.{take-append_seam}
use Rattle.emp_file_desk.specs.Streams.{IsFirst}
use Rattle.emp_file_desk.proofs.streams.read_first.Goals as goal

-- a reader that gave as many bytes gave the first of its bytes
all_taken : (most : ℕ) (a b : Option (List ℕ)) (bytes : List ℕ) → Consumes a b bytes → length bytes ≡ most → IsFirst most a bytes
all_taken most None b bytes h e = tt
all_taken most (Some xs) None bytes h e = absurd h
all_taken most (Some xs) (Some ys) bytes h e = sym (ap (take most) h ∙ ap (λ n. take n (bytes ++ ys)) (sym e) ∙ take-append_seam bytes ys)

pub returns-clause-first : goal.returns-clause-first
returns-clause-first g c = all_taken c.args.most _ _ c.loop.bytes.items c.loop.invariant.2 (omega (arith, c.loop.invariant.0, c.loop.invariant.1, c.loop-test.false))
