-- The definitions of the lines, tried on examples.
use Rattle.std.proofs.Common.{◌≡◌, true, false, [], ◌∷◌, ◌++◌, replicate, None, Err, codes, refl, arith}
use Rattle.std.specs.Fmt.{digits}
use Rattle.selfid.specs.declared.mark.Mark.TheVariants.{Absent, Open, Up}
use Rattle.selfid.specs.declared.node.Fields.{Fields}
use Rattle.selfid.specs.declared.speed.Speed.TheVariants.{S200}
use Rattle.stops.specs.declared.Cause.TheVariants.{NotWhole}
use Rattle.survey.specs.Nodes.{port_with, row_with}
use Rattle.survey.specs.Views.{Shown, bus, void}
use Rattle.print.specs.declared.stop.LineStop.TheVariants.{NoSuchLine}
use Rattle.print.specs.Lines.{reset_line, node_line, void_line, trace_stop_line, input_stop_line, line_feed}
use Rattle.print.specs.Print.{print_lines, line_at}

abbrev fields : Fields
fields = record { link = true; contender = false; initiator = false; gap = 63; speed = S200; power = 4; gap_in_range = omega arith; power_in_range = omega arith }

reset_example : reset_line 1 3 ≡ codes "reset 1 nodes 3" ++ line_feed
unfolding digits
reset_example = refl

node_example : node_line 0 fields (Up ∷ replicate 15 Absent) ≡ codes "node 0 S200 gap 63 power 4 L-- u..............." ++ line_feed
unfolding digits
node_example = refl

void_example : void_line 2 10 4 ≡ codes "reset 2 void 10 at 4" ++ line_feed
unfolding digits
void_example = refl

trace_stop_example : trace_stop_line 2 21 7 ≡ codes "reset 2 trace 21 at line 7" ++ line_feed
unfolding digits
trace_stop_example = refl

input_stop_example : input_stop_line ≡ codes "stop 23" ++ line_feed
input_stop_example = refl

-- A lone node with one open port.
abbrev lone : Shown
lone = bus (row_with fields (port_with Open None ∷ replicate 15 (port_with Absent None)) ∷ [])

bus_example : print_lines 5 lone ≡ (codes "reset 5 nodes 1" ++ line_feed) ∷ (codes "node 0 S200 gap 63 power 4 L-- o..............." ++ line_feed) ∷ []
unfolding digits
bus_example = refl

no_line_example : line_at (print_lines 5 lone) 2 ≡ Err NoSuchLine
no_line_example = refl

void_record_example : print_lines 5 (void (NotWhole 3)) ≡ (codes "reset 5 void 32 at 3" ++ line_feed) ∷ []
unfolding digits
void_record_example = refl
