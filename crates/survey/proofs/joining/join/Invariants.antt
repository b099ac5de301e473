use Rattle.std.proofs.Common.{◌≡◌, true, ◌++◌, length, take, drop}
use Rattle.selfid.specs.Marks.{downs}
use Rattle.selfid.specs.Nodes.{port_limit}
use Rattle.survey.specs.Joining.{ends_within, rows_joined, ports_joined}
use Rattle.survey.proofs.joining.join.Given as goal

-- The ports before this one are told, and the ends that still wait are due to the others.
abbrev pub invariant-loop-port : goal.invariant-loop-port
invariant-loop-port l =
    let number = length l.initial.rows in
    record {
      rows_due : rows_joined number l.port (drop l.port l.marks) l.waiting l.rows ≡ rows_joined number 0 l.marks l.initial.taken l.initial.rows;
      ports_due : take l.port l.ports ++ ports_joined (drop l.port l.marks) l.waiting ≡ ports_joined l.marks l.initial.taken;
      one_for_each : length l.waiting ≡ downs (drop l.port l.marks);
      within : ends_within number l.waiting ≡ true;
      all_ports : length l.ports ≡ port_limit;
    }
