-- What the contracts of reading cite: the words of a text, taken one by one. Assumes nothing.
--   Held                   what is read so far: the nodes, the node of the lines of this block, the open blocks, innermost
--                          first, and the node of each sub-program's body
--   added                  numbers come behind the nodes
--   put_line, begun        a line's node is put behind the lines before it; a block is opened
--   closed                 a `}`: the innermost block's line is put
--   named k                behind `sub` k: the use of a sub-program that is told, or the next one's `{`
--   step                   what a word leads to, in a phase, with what is held; none where it can't stand there
--   at_end                 the nodes where the text may end
--   expected_of            what could stand there
--   reads                  words taken one by one: the nodes, or the first that can't stand where it stands
--   read                   a text's nodes, or where it can't be read and what was expected there
use Rattle.std.specs.Prelude.{◌≡◌, ℕ, Bool, true, false, cond, not, ◌&&◌, List, [], ◌∷◌, ◌++◌, length, ℤ, pos, is_some, Some, None, Ok, Err, vec_items, Option, Result, Vec, ◌==◌, nat_lt, slice_index_or}
use Rattle.std.specs.Option.{ok_or}
use Rattle.std.specs.declared.alloc.Global.{Global}
use Rattle.count.specs.Counts.{size}
use Rattle.refusal.specs.declared.failed.Failed.{Failed}
use Rattle.refusal.specs.declared.failed.Failed.TheVariants.{Refused, Memory}
use Rattle.word.specs.Lines.{feeds}
use Rattle.text.specs.declared.draft.Opened.{Opened}
use Rattle.text.specs.declared.error.Expected.{Expected}
use Rattle.text.specs.declared.error.Expected.TheVariants as expected
use Rattle.text.specs.declared.error.Misplaced.{Misplaced}
use Rattle.text.specs.declared.error.Unreadable.{Unreadable}
use Rattle.text.specs.declared.phase.Block.TheVariants.{Repeat, Offset, Turned, Mirrored}
use Rattle.text.specs.declared.phase.Head.{Head}
use Rattle.text.specs.declared.phase.Head.TheVariants.{Lines, SubProgram}
use Rattle.text.specs.declared.phase.Move.TheVariants.{Absolute, Incremental}
use Rattle.text.specs.declared.phase.Phase.{Phase}
use Rattle.text.specs.declared.phase.Phase.TheVariants.{Line, MoveX, MoveY, MoveFast, MoveSpeed, MoveEnd, Count, OffsetX, OffsetY, Name, UseEnd, Brace}
use Rattle.text.specs.declared.token.Key.{Key}
use Rattle.text.specs.declared.token.Key.TheVariants.{To, By, Fast, Times, At, Turn, Mirror, Sub, Semicolon, Open, Close}
use Rattle.text.specs.declared.token.Token.{Token}
use Rattle.text.specs.declared.token.Token.TheVariants.{Number, Word, Other}
use Rattle.text.specs.Nodes.{Laid, node, move_kind, with_line, body_of, body_nodes, block_node}
use Rattle.text.specs.Tokens.{value_of, is_key}
use Rattle.text.specs.Words.{Found, scan}

pub record Held : Type 0 where
  pub laid : Laid
  pub blocks : List Opened
  pub subs : List ℤ

abbrev pub empty : Held
empty = record { laid = record { nodes = []; last = None }; blocks = []; subs = [] }

abbrev pub added : List ℤ → Held → Held
added line h = record h { laid = record h.laid { nodes = h.laid.nodes ++ line } }

abbrev pub put_line : List ℤ → Held → Held
put_line line h = record h { laid = with_line line h.laid }

abbrev pub bodied : Held → Held
bodied h = record h { laid = record h.laid { nodes = body_nodes h.laid } }

abbrev pub begun : Head → Held → Held
begun b h = record h { laid = record h.laid { last = None }; blocks = record { head = b; before = h.laid.last } ∷ h.blocks }

-- what a block says, once its body's node is known
abbrev pub ended : Head → ℤ → Held → Held
ended (Lines b) body h = put_line (block_node b body) h
ended SubProgram body h = record h { subs = h.subs ++ body ∷ [] }

abbrev pub Next : Type 0
Next = Option (Phase × Held)

abbrev pub closed : List Opened → Held → Next
closed [] h = None
closed (o ∷ os) h = Some (Line, ended o.head (body_of h.laid) (record h { laid = record { nodes = body_nodes h.laid; last = o.before }; blocks = os }))

abbrev pub outside : List Opened → Bool
outside [] = true
outside (o ∷ os) = false

-- no block is open, and no line has begun
abbrev pub fresh : Held → Bool
fresh h = outside h.blocks && not (is_some h.laid.last)

-- behind `sub` k
abbrev pub named : ℕ → Held → Next
named k h =
    cond (nat_lt k (length h.subs)) (Some (UseEnd (slice_index_or h.subs k (pos 0)), h))
    (cond (k == length h.subs && fresh h) (Some (Brace SubProgram, h)) None)

abbrev pub begins : Key → Held → Next
begins To h = Some (MoveX Absolute, h)
begins By h = Some (MoveX Incremental, h)
begins Fast h = None
begins Times h = None
begins At h = Some (OffsetX, h)
begins Turn h = Some (Brace (Lines Turned), h)
begins Mirror h = Some (Brace (Lines Mirrored), h)
begins Sub h = Some (Name, h)
begins Semicolon h = None
begins Open h = None
begins Close h = closed h.blocks h

abbrev pub on_line : Token → Held → Next
on_line (Number n) h = Some (Count n, h)
on_line (Word k) h = begins k h
on_line Other h = None

-- a number, or only this word
abbrev pub after_number : Option ℤ → (ℤ → Next) → Next
after_number None f = None
after_number (Some n) f = f n

abbrev pub after_key : Key → Token → Phase → Held → Next
after_key k t p h = cond (is_key k t) (Some (p, h)) None

abbrev pub line_ends : Token → List ℤ → Held → Next
line_ends t line h = after_key Semicolon t Line (put_line line h)

abbrev pub step : Token → Phase → Held → Next
step t Line h = on_line t h
step t (MoveX m) h = after_number (value_of t) (λ x. Some (MoveY m x, h))
step t (MoveY m x) h = after_number (value_of t) (λ y. Some (MoveFast m x y, h))
step t (MoveFast m x y) h = after_key Fast t (MoveSpeed m x y) h
step t (MoveSpeed m x y) h = after_number (value_of t) (λ f. Some (MoveEnd m x y f, h))
step t (MoveEnd m x y f) h = line_ends t (node (move_kind m) x y f) h
step t (Count n) h = after_key Times t (Brace (Lines (Repeat n))) h
step t OffsetX h = after_number (value_of t) (λ x. Some (OffsetY x, h))
step t (OffsetY x) h = after_number (value_of t) (λ y. Some (Brace (Lines (Offset x y)), h))
step t Name h = after_number (value_of t) (λ n. named (size n) h)
step t (UseEnd body) h = line_ends t (node (pos 8) body (pos 0) (pos 0)) h
step t (Brace b) h = after_key Open t Line (begun b h)

-- the lines may end where no block is open
abbrev pub at_end : Phase → Held → Option (List ℤ)
at_end Line h = cond (outside h.blocks) (Some (body_nodes h.laid)) None
at_end (MoveX m) h = None
at_end (MoveY m x) h = None
at_end (MoveFast m x y) h = None
at_end (MoveSpeed m x y) h = None
at_end (MoveEnd m x y f) h = None
at_end (Count n) h = None
at_end OffsetX h = None
at_end (OffsetY x) h = None
at_end Name h = None
at_end (UseEnd body) h = None
at_end (Brace b) h = None

abbrev pub expected_of : Phase → Held → Expected
expected_of Line h = cond (outside h.blocks) expected.Line expected.LineOrClose
expected_of (MoveX m) h = expected.Number
expected_of (MoveY m x) h = expected.Number
expected_of (MoveFast m x y) h = expected.Fast
expected_of (MoveSpeed m x y) h = expected.Number
expected_of (MoveEnd m x y f) h = expected.Semicolon
expected_of (Count n) h = expected.Times
expected_of OffsetX h = expected.Number
expected_of (OffsetY x) h = expected.Number
expected_of Name h = expected.Name
expected_of (UseEnd body) h = expected.Semicolon
expected_of (Brace b) h = expected.Open

-- what a step in code answers: the phase, or why not; want of memory is one more case
abbrev pub Stepped : Next → Result Phase (Failed Misplaced) → (before after : Held) → Type 0
Stepped next (Ok p) h k = next ≡ Some (p, k)
Stepped next (Err (Refused e)) h k = (next ≡ None) × (k ≡ h)
Stepped next (Err Memory) h k = Unit {0}

abbrev pub Finished : Option (List ℤ) → Result (Vec ℤ Global) (Failed Misplaced) → Type 0
Finished end (Ok v) = end ≡ Some (vec_items v)
Finished end (Err (Refused e)) = end ≡ None
Finished end (Err Memory) = Unit {0}

abbrev pub unreadable : Found → Expected → Unreadable
unreadable w e = record { line = w.line; start = w.start; «end» = w.stop; expected = e }

abbrev pub follow : {A : Type 0} → Next → A → (Phase → Held → A) → A
follow None a f = a
follow (Some s) a f = f s.0 s.1

unfoldable pub reads : Phase → Held → List Found → (end : Found) → Result (List ℤ) Unreadable
reads p h [] end = ok_or (at_end p h) (unreadable end (expected_of p h))
reads p h (w ∷ ws) end = follow (step w.token p h) (Err (unreadable w (expected_of p h))) (λ q k. reads q k ws end)

-- where a text ends
abbrev pub end_of : List ℕ → Found
end_of text = record { token = Other; line = feeds text; start = length text; stop = length text }

abbrev pub read : List ℕ → Result (List ℤ) Unreadable
read text = reads Line empty (scan 0 0 [] text) (end_of text)

-- what the reader in code answers; want of memory is one more case
abbrev pub Answers : Result (List ℤ) Unreadable → Result (Vec ℤ Global) (Failed Unreadable) → Type 0
Answers x (Ok v) = x ≡ Ok (vec_items v)
Answers x (Err (Refused u)) = x ≡ Err u
Answers x (Err Memory) = Unit {0}

abbrev pub error_of : Failed Misplaced → Unreadable → Failed Unreadable
error_of (Refused e) u = Refused u
error_of Memory u = Memory
