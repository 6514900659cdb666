-- For the proof: one step of the rows on lists, as the code carries it out on its tables: nodes for finished trees, the newest first, and the keys as the key table has them. The machine that is believed works on trees (crate `standard`, Machine).
use Rattle.std.specs.Prelude.{Bool, List, ◌∷◌, ◌++◌, ℕ, leb, length}
use Rattle.tables.specs.Choose.{pick}
use Rattle.lex.specs.Token.{Lexeme}
use Rattle.standard.specs.Table.{Node}
use Rattle.standard.specs.Rows.{NonTerm, row_of}
use Rattle.standard.specs.Machine.{Refusal, refusal, Limits}
use Rattle.row.specs.Request.{Request, refused, entries, keys_node, oneChild, twoChildren, three_children, many_children, Reading, reading, reading_asked}
use Rattle.row.specs.Request as request
use Rattle.judge.specs.Nodes.{Making, makes, refuses, new_leaf, reduce_one, reduce_two, reduce_three, reduce_many}

-- work list, the next entry first; tokens left, the next one first; nodes of the finished trees, the newest first; offsets of their keys, the oldest first
pub record Lists : Type 0 where
  pub work : List NonTerm
  pub left : List Lexeme
  pub nodes : List Node
  pub keys : List ℕ

pub data Next : Type 0 where
  goes : Lists → Next
  stops : Refusal → Next

-- "no room for a node, a multi's keys, the work entries of a row": 16, then 15, then 17
abbrev pub fitting : Limits → Lists → Next
fitting limits s =
    pick (leb (length s.keys) limits.keys)
    (pick (leb (length s.nodes) limits.nodes)
    (pick (leb (length s.work) limits.work)
    (goes s)
    (stops (refusal 17 0 s.left)))
    (stops (refusal 15 0 s.left)))
    (stops (refusal 16 0 s.left))

module _ (limits : Limits) (work : List NonTerm) (left : List Lexeme) (nodes : List Node) (keys : List ℕ) where
  -- with these entries on the work list, these nodes and these keys
  abbrev pub goes_on : List NonTerm → List Node → List ℕ → Next
  goes_on work' nodes' keys' = fitting limits (record { work = work'; left = left; nodes = nodes'; keys = keys' })

  -- a node that a reduction made, or 14
  abbrev pub made : Making → Next
  made (makes n) = goes_on work (n ∷ nodes) keys
  made (refuses reason) = stops (refusal 14 reason left)

  -- what a row asks for, carried out
  abbrev pub perform : Request → Next
  perform (refused n) = stops (refusal n 0 left)
  perform (entries es) = goes_on (es ++ work) nodes keys
  perform (request.leaf_node kind number place es) = goes_on (es ++ work) (new_leaf kind number 0 place ∷ nodes) keys
  perform (keys_node kind k offsets es) = goes_on (es ++ work) (new_leaf kind k (length offsets) (length keys) ∷ nodes) (keys ++ offsets)
  perform (oneChild kind) = made (reduce_one kind nodes)
  perform (twoChildren kind) = made (reduce_two kind nodes)
  perform three_children = made (reduce_three nodes)
  perform (many_children k n) = made (reduce_many k n nodes)

abbrev pub performed : Limits → Reading → List NonTerm → List Node → List ℕ → Next
performed limits (reading r left) work nodes keys = perform limits work left nodes keys r

-- one entry taken off
unfoldable pub step_by : Bool → Limits → NonTerm → List NonTerm → List Lexeme → List Node → List ℕ → Next
step_by segwit limits entry work left nodes keys = performed limits (reading_asked segwit (row_of segwit entry left)) work nodes keys
