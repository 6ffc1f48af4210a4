-- A function over references to a struct, or over a struct that holds one, is proved by a walk of its MIR, by hand: from what it owns at
-- entry, statement by statement, to what it owns at return. The kit has the steps; here is what such a walk takes beside them, of no type
-- of ours. A walk's file reads from top to bottom:
--
-- 1. Words (Walk). The kit's names that walks share: a walk takes them from there.
--
-- 2. Calls (Call). `Callee` is what a walk knows of a function that it calls: its name, its contract, and that the contract is met. A
--    call is then one step, its operands given by `local`, its result's room by a place in the context (`local`, `literal` and `flag` ask
--    that an operand is the value named, so that a wrong program is refused at a value):
--        calls-plain     the function takes plain values: what it asks is made of what is known of them
--        calls-out       it takes what was lent: from an entry of the context that holds what it asks; last values come back
--        gives           its contract is an equation: the local holds the machine value of what that names
--    Each hands on what the contract says of the result.
--
-- 3. Branches (Branch). `branches-on` goes both ways on a bool in a local; `skips-to` and `assigns-to` end an arm.
--
-- 4. What is lent (Lent, Record, Field). Lent has the entries of lent slices and of a lent record. A record's type is told once, as a
--    `Lendable`, with its machine values shut, so that they are compared by name; then
--        opens-record, closes-record     the borrow behind a `&mut` is opened, which gives the record's cell, and closed at another value
--        gives-record                    it is closed, and given up for good; of one that was never opened, leaves-record
--        sees-into, sees-away            one behind a `&` is looked into, which gives a share of its cell, and no longer
--        looks-into, looks-away          so is one of which shares are lent, by a fractured borrow
--        copies, copies_of, stores       a part of the cell, or of a local, is copied into a local, or stored; `Inside` tells a part, by the
--                                        steps to it
--    `sub_in` finds a field of a struct whose type is told by an equation.
--
-- 5. The end (Locals, Entered). `frees_all` frees every local at return; `walk-entered` makes a walk the proof of the contract, from the
--    proofs of the functions called.
--
-- `board` walks a record behind a `&mut`, `sheet` and `tour` a cursor that holds a slice: board's `apply` is a short one to start from.
pub mod Walk
pub mod Call
pub mod Branch
pub mod Field
pub mod Lent
pub mod Record
pub mod Locals
pub mod Entered
