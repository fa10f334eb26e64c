-- The text of the sample model of a size: a gate that wants two of so many trains, each of two basic events. This
-- project's own.
use Rattle.std.specs.Prelude.{ℕ, List, ◌++◌, codes, decimal}
use Rattle.std.specs.List.{flat_map, range_with_len}

-- the reference to a train
abbrev pub train_reference : ℕ → List ℕ
train_reference i = codes "<gate name=\"t" ++ decimal i ++ codes "\"/>\n"

-- a train: its gate and its basic events, each in a line
abbrev pub train_gate : ℕ → List ℕ
train_gate i =
    codes "<define-gate name=\"t" ++ decimal i ++ codes "\"><or><basic-event name=\"a" ++ decimal i
    ++ codes "\"/><basic-event name=\"b" ++ decimal i ++ codes "\"/></or></define-gate>\n"

-- the definition of an event of the sample
abbrev pub event_definition : List ℕ → ℕ → List ℕ → List ℕ
event_definition letter i quantity =
    codes "<define-basic-event name=\"" ++ letter ++ decimal i ++ codes "\"><float value=\"" ++ quantity
    ++ codes "\"/></define-basic-event>\n"

-- the definitions of a train of the sample: its gate and its two events
abbrev pub train_definitions : ℕ → List ℕ
train_definitions i =
    train_gate i ++ event_definition (codes "a") i (codes "0.001") ++ event_definition (codes "b") i (codes "0.0002")

-- the text, each line ended by a line feed
abbrev pub sample_text : ℕ → List ℕ
sample_text n =
    codes "<opsa-mef>\n<define-fault-tree name=\"sample\">\n<define-gate name=\"top\"><atleast min=\"2\">\n"
    ++ flat_map train_reference (range_with_len 1 n) ++ codes "</atleast></define-gate>\n"
    ++ flat_map train_definitions (range_with_len 1 n) ++ codes "</define-fault-tree>\n</opsa-mef>\n"

-- the text of two trains, line by line
abbrev pub two_trains : List ℕ
two_trains =
    codes "<opsa-mef>\n"
    ++ codes "<define-fault-tree name=\"sample\">\n"
    ++ codes "<define-gate name=\"top\"><atleast min=\"2\">\n"
    ++ codes "<gate name=\"t1\"/>\n"
    ++ codes "<gate name=\"t2\"/>\n"
    ++ codes "</atleast></define-gate>\n"
    ++ codes "<define-gate name=\"t1\"><or><basic-event name=\"a1\"/><basic-event name=\"b1\"/></or></define-gate>\n"
    ++ codes "<define-basic-event name=\"a1\"><float value=\"0.001\"/></define-basic-event>\n"
    ++ codes "<define-basic-event name=\"b1\"><float value=\"0.0002\"/></define-basic-event>\n"
    ++ codes "<define-gate name=\"t2\"><or><basic-event name=\"a2\"/><basic-event name=\"b2\"/></or></define-gate>\n"
    ++ codes "<define-basic-event name=\"a2\"><float value=\"0.001\"/></define-basic-event>\n"
    ++ codes "<define-basic-event name=\"b2\"><float value=\"0.0002\"/></define-basic-event>\n"
    ++ codes "</define-fault-tree>\n"
    ++ codes "</opsa-mef>\n"
