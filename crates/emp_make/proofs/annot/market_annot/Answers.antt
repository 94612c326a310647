use Rattle.std.proofs.Common.{refl}
use Rattle.emp_make.proofs.Made.{blocks_at, blocks_count}
use Rattle.emp_make.proofs.annot.market_annot.Goals as goal

pub returns : goal.returns
returns c =
    let n = c.args.firms in
    let bs = c.in_ok-blocks.blocks in
    let e = c.in_ok-blocks.ensures in
    record {
      bilevel = refl;
      leader = c.new.ensures;
      count = blocks_count n bs e;
      blocks = λ k h. blocks_at n k bs e h;
      duals = c.new-2.ensures;
      visols = c.new-3.ensures;
      implicits = c.new-4.ensures;
    }
