-- Packets with the same parts are the same: that a number is in range has one proof.
use Rattle.std.proofs.Common.{◌≡◌, ◌<◌}
use mathlib.Core.HLevel.{is_prop→PathP}
use native.Mathlib.Bridge.{le_prop}
use Rattle.selfid.specs.declared.node.Fields.{Fields}
use Rattle.selfid.specs.declared.packet.PacketZero.{PacketZero}
use Rattle.selfid.specs.declared.packet.Extension.{Extension}

pub same_fields : (x y : Fields) → x.link ≡ y.link → x.contender ≡ y.contender → x.initiator ≡ y.initiator → x.gap ≡ y.gap → x.speed ≡ y.speed → x.power ≡ y.power → x ≡ y
same_fields x y l c i g s p k =
    record {
      link = l k;
      contender = c k;
      initiator = i k;
      gap = g k;
      speed = s k;
      power = p k;
      gap_in_range = is_prop→PathP (λ j. g j < 64) (λ j. le_prop) x.gap_in_range y.gap_in_range k;
      power_in_range = is_prop→PathP (λ j. p j < 8) (λ j. le_prop) x.power_in_range y.power_in_range k;
    }

pub same_zero : (x y : PacketZero) → x.number ≡ y.number → x.fields ≡ y.fields → x.marks ≡ y.marks → x.more ≡ y.more → x ≡ y
same_zero x y n f m o k =
    record {
      number = n k;
      fields = f k;
      marks = m k;
      more = o k;
      number_in_range = is_prop→PathP (λ j. n j < 64) (λ j. le_prop) x.number_in_range y.number_in_range k;
    }

pub same_extension : (x y : Extension) → x.number ≡ y.number → x.turn ≡ y.turn → x.marks ≡ y.marks → x.more ≡ y.more → x ≡ y
same_extension x y n t m o k =
    record {
      number = n k;
      turn = t k;
      marks = m k;
      more = o k;
      number_in_range = is_prop→PathP (λ j. n j < 64) (λ j. le_prop) x.number_in_range y.number_in_range k;
      turn_in_range = is_prop→PathP (λ j. t j < 8) (λ j. le_prop) x.turn_in_range y.turn_in_range k;
    }
