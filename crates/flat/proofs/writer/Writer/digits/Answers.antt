-- `flat::writer::Writer::digits` meets its contract: where the slice has no places for all, they are counted.
use mathlib.Core.Path.{refl}
use native.Mathlib.Omega.{arith}
use Rattle.bcd.specs.Digits.{built_in}
use Rattle.bcd.proofs.Reading.{digits-length}
use Rattle.flat.proofs.writer.Writer.digits.Goals as goal

pub returns-else-self : goal.returns-else-self
returns-else-self c =
    let l = digits-length built_in c.args.bytes.now c.args.n in
    record {
      lent = refl;
      same = refl;
      behind = omega (arith, l, c.saturating_add-self.ensures, c.requires);
      held = λ h. absurd (omega (arith, l, h, c.if-self.false, c.saturating_add-self.ensures, c.requires));
    }
