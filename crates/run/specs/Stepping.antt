-- For the proof: what a step needs of the tables. The run always provides it.
use Rattle.std.specs.Prelude.{Bool, List, ℕ, ◌-◌, ◌≤◌, ◌<◌, get_or}
use Rattle.standard.specs.Rows.{row_of}
use Rattle.row.specs.Tokens.{InTable, lexemes_left}
use Rattle.row.specs.Request.{counted, reading_asked}
use Rattle.work_list.specs.Work.{unpacked, entry_at}
use Rattle.lists.specs.Ready.{ReadyReading}
use Rattle.writes.specs.declared.State.{State}
use Rattle.perform.specs.View.{Inside}

pub record Stepping (segwit : Bool) (script tokens nodes keys work : List ℕ) (s : State) : Type 0 where
  -- an entry is there to be taken
  pub some : 1 ≤ s.work
  pub left_in_table : InTable tokens s.left
  pub inside : Inside nodes keys work s
  pub countable : counted (unpacked (get_or work (s.work - 1) 0)) < 2147483648
  -- what its row asks for can be carried out
  pub ready : ReadyReading s.nodes nodes (reading_asked segwit (row_of segwit (entry_at work (s.work - 1)) (lexemes_left script tokens s.left)))
