-- The lines of the print, byte for byte. A number is written in decimal without leading zeros.
use Rattle.std.specs.Prelude.{ℕ, Bool, cond, List, [], ◌∷◌, ◌++◌, map, codes, decimal, slice_index}
use Prim.Native.String.{String}
use Rattle.selfid.specs.declared.mark.Mark.{Mark}
use Rattle.selfid.specs.declared.mark.Mark.TheVariants.{Absent, Open, Up, Down}
use Rattle.selfid.specs.declared.node.Fields.{Fields}
use Rattle.selfid.specs.declared.speed.Speed.{Speed}
use Rattle.selfid.specs.declared.speed.Speed.TheVariants.{S100, S200, S400}

-- Every line ends with the byte 10.
abbrev pub line_feed : List ℕ
line_feed = 10 ∷ []

-- The code of a text of one letter.
abbrev pub letter : String → ℕ
letter text = slice_index (codes text) 0

abbrev pub speed_text : Speed → List ℕ
speed_text S100 = codes "S100"
speed_text S200 = codes "S200"
speed_text S400 = codes "S400"

abbrev pub mark_letter : Mark → ℕ
mark_letter Absent = letter "."
mark_letter Open = letter "o"
mark_letter Up = letter "u"
mark_letter Down = letter "d"

-- A flag that is set has its own letter; one that is not set has a hyphen.
abbrev pub flag_letter : ℕ → Bool → ℕ
flag_letter own set = cond set own (letter "-")

-- The flags: the link is active, the node contends, it initiated the reset.
abbrev pub flags_text : Fields → List ℕ
flags_text x = flag_letter (letter "L") x.link ∷ flag_letter (letter "C") x.contender ∷ flag_letter (letter "I") x.initiator ∷ []

-- The first line of a bus, as "reset 1 nodes 3": the number of the reset, from 1, and how many nodes there are.
abbrev pub reset_line : (reset nodes : ℕ) → List ℕ
reset_line reset nodes = codes "reset " ++ decimal reset ++ codes " nodes " ++ decimal nodes ++ line_feed

-- The line of a node, as "node 0 S200 gap 63 power 4 L-- u...............": its number, speed, gap count, power class, flags, and a letter for the mark of each port.
abbrev pub node_line : (number : ℕ) → Fields → List Mark → List ℕ
node_line number x ms =
    codes "node " ++ decimal number
    ++ codes " " ++ speed_text x.speed
    ++ codes " gap " ++ decimal x.gap
    ++ codes " power " ++ decimal x.power
    ++ codes " " ++ flags_text x
    ++ codes " " ++ map mark_letter ms
    ++ line_feed

-- The line of a reset and a stop: the number of the reset, of the stop, and the place of the stop, the last two behind these labels.
abbrev pub stop_line : (label place_label : List ℕ) → (reset number place : ℕ) → List ℕ
stop_line label place_label reset number place = codes "reset " ++ decimal reset ++ label ++ decimal number ++ place_label ++ decimal place ++ line_feed

-- The one line of a void record, as "reset 2 void 10 at 4".
abbrev pub void_line : (reset number place : ℕ) → List ℕ
void_line reset number place = stop_line (codes " void ") (codes " at ") reset number place

-- The line of a trace that stopped, as "reset 2 trace 21 at line 7": the place is the line of the trace.
abbrev pub trace_stop_line : (reset number place : ℕ) → List ℕ
trace_stop_line reset number place = stop_line (codes " trace ") (codes " at line ") reset number place

-- The line of an input that is too long, which is stop 23.
abbrev pub input_stop_line : List ℕ
input_stop_line = codes "stop 23" ++ line_feed
