use Rattle.gms_print.specs.Canonical.{IsCanonical}
use Rattle.gms_print.proofs.Soundness.{sound_model}
use Rattle.gms_print.proofs.Whole.{reads_back}
use Rattle.gms_print.proofs.Printable.{printable_model, alone}
use Rattle.gms_print.proofs.print.print_model.Goals as goal

pub returns : goal.returns
returns c =
    let m = c.args.model.now in
    record {
      printable = λ h. alone (IsCanonical m) c.new-out.result.items c.write_model.new.out.items c.new-out.ensures.items (c.in_ok-write_model.ensures h);
      canonical = λ h. alone (IsCanonical m) c.new-out.result.items c.write_model.new.out.items c.new-out.ensures.items (c.in_ok-write_model.ensures (printable_model m (sound_model m h)));
      reads_back = λ h. reads_back m c.write_model.new.out.items (sound_model m h) (alone (IsCanonical m) c.new-out.result.items c.write_model.new.out.items c.new-out.ensures.items (c.in_ok-write_model.ensures (printable_model m (sound_model m h))));
    }
