-- What a stack over lent slots answers, and what it and its slots hold afterwards.
use Rattle.std.specs.Prelude.{ℕ, ◌-◌, cond, List, [], ◌∷◌, reverse, length, take, Some, None, Ok, Err, Option, Result, nat_le, nat_lt, slice_set}
use Rattle.std.specs.Borrow.{GName}
use Rattle.stack.specs.declared.stacks.Stack.{Stack}
use Rattle.stack.specs.declared.stacks.Full.{Full}

-- the first n of some slots, the last of them first
abbrev pub front : {X : Type 0} → ℕ → List X → List X
front n slots = reverse (take n slots)

-- the entries of a stack, newest first
abbrev pub entries : {X : Type 0} → Stack X → List X
entries s = front s.len s.slots.now

-- what all the slots hold, unused ones too
abbrev pub held : {X : Type 0} → Stack X → List X
held s = s.slots.now

-- how many slots there are
abbrev pub room : {X : Type 0} → Stack X → ℕ
room s = length s.slots.now

-- the loan that the slots came by: as long as it stays the same, the lender gets back what the stack leaves
abbrev pub lender : {X : Type 0} → Stack X → GName
lender s = s.slots.ghost_name

-- taking up n slots is refused if there are fewer
abbrev pub take_up_answer : ℕ → ℕ → Result (Unit {0}) Full
take_up_answer n most = cond (nat_le n most) (Ok tt) (Err (record {}))

-- the entries xs of a stack become the first n of its slots, or stay if there are fewer
abbrev pub taken_up : {X : Type 0} → ℕ → List X → List X → List X
taken_up n slots xs = cond (nat_le n (length slots)) (front n slots) xs

-- a push is refused if there are as many entries as slots
abbrev pub push_answer : {X : Type 0} → List X → ℕ → Result (Unit {0}) Full
push_answer xs most = cond (nat_lt (length xs) most) (Ok tt) (Err (record {}))

-- the entries with x before them, or as they were if there is no room
abbrev pub pushed : {X : Type 0} → List X → ℕ → X → List X
pushed xs most x = cond (nat_lt (length xs) most) (x ∷ xs) xs

-- the newest entry, if there is one
abbrev pub newest : {X : Type 0} → List X → Option X
newest [] = None
newest (x ∷ xs) = Some x

-- the entries but for the newest
abbrev pub without_newest : {X : Type 0} → List X → List X
without_newest [] = []
without_newest (x ∷ xs) = xs

-- the entries with x for the newest; where there is none, there is none
abbrev pub with_newest : {X : Type 0} → X → List X → List X
with_newest x [] = []
with_newest x (y ∷ xs) = x ∷ xs

-- What all the slots hold after a call, from what they held and the entries xs that the stack had.

-- as before: only the number of entries changes
abbrev pub held_after_take_up : {X : Type 0} → List X → List X
held_after_take_up slots = slots

-- x in the first unused slot; as before if there is none
abbrev pub held_after_push : {X : Type 0} → List X → List X → X → List X
held_after_push slots xs x = cond (nat_lt (length xs) (length slots)) (slice_set slots (length xs) x) slots

-- as before: the slot of the entry that goes is not written
abbrev pub held_after_pop : {X : Type 0} → List X → List X
held_after_pop slots = slots

-- x in the slot of the newest entry; as before if there is no entry
abbrev pub held_after_replace : {X : Type 0} → List X → List X → X → List X
held_after_replace slots xs x = cond (nat_lt 0 (length xs)) (slice_set slots (length xs - 1) x) slots
