-- A step of the code, read as a step on lists. Assumes nothing.
use Rattle.std.proofs.Common.{Ok, Err}
use mathlib.Core.Path.{◌≡◌, sym, ap, subst, ◌∙◌}
use mathlib.Core.Bool.{Bool}
use mathlib.Core.List.{List}
use Prim.Native.Nat.{ℕ, ◌-◌, ◌<◌}
use native.Mathlib.Omega.{arith}
use lib.ListN.{get_or, take}
use Rattle.tables.specs.Tables.{newest}
use Rattle.standard.specs.Rows.{row_of}
use Rattle.row.specs.declared.Refused.{Refused}
use Rattle.row.specs.declared.NonTerm.{NonTerm}
use Rattle.row.specs.Tokens.{lexemes_left}
use Rattle.row.specs.Request.{Request, refused, counted, entry_of, Reading, reading, reading_asked}
use Rattle.judge.specs.NodeTable.{node_at}
use Rattle.work_list.specs.Work.{unpacked, entry_at, work_of}
use Rattle.lists.specs.Lists.{performed, step_by}
use Rattle.lists.specs.Ready.{Ready, ReadyReading}
use Rattle.writes.specs.declared.State.{State}
use Rattle.writes.specs.Written.{Step, counts, stop_of_row}
use Rattle.writes.specs.declared.Stop.{Stop}
use Rattle.perform.proofs.PerformLaws.{refused_performs}
use Rattle.perform.specs.View.{Inside, room_of, Kept, Performs, Steps}
use Rattle.run.specs.Stepping.{Stepping}

-- what is kept speaks of nodes and keys alone
same_kept : (nodes nodes' keys keys' : List ℕ) (s : State) (left work : ℕ) (r : Step) → Kept nodes nodes' keys keys' (counts left work s.nodes s.keys) r → Kept nodes nodes' keys keys' s r
same_kept nodes nodes' keys keys' s left work (Ok t) h = h
same_kept nodes nodes' keys keys' s left work (Err stop) h = h

module _ (segwit : Bool) (script tokens nodes keys work : List ℕ) (s : State) (stepping : Stepping segwit script tokens nodes keys work s) (entry : NonTerm) (taken : entry ≡ unpacked (get_or work (s.work - 1) 0)) where
  pub countable : counted entry < 2147483648
  countable = rw taken stepping.countable

  -- the tables after the entry is taken off
  pub inside_after : (left : ℕ) → Inside nodes keys work (counts left (s.work - 1) s.nodes s.keys)
  inside_after left =
      let i = stepping.inside in
      record { in_nodes = i.in_nodes; in_keys = i.in_keys; in_work = omega (arith, i.in_work); few_nodes = i.few_nodes; few_keys = i.few_keys }

  -- a row was read, or refused
  module _ (asked : Request) (left : ℕ) (reads : reading asked (lexemes_left script tokens left) ≡ reading_asked segwit (row_of segwit (entry_of entry) (lexemes_left script tokens s.left))) where
    read_at : reading asked (lexemes_left script tokens left) ≡ reading_asked segwit (row_of segwit (entry_at work (s.work - 1)) (lexemes_left script tokens s.left))
    read_at = reads ∙ ap (λ (e : NonTerm). reading_asked segwit (row_of segwit (entry_of e) (lexemes_left script tokens s.left))) taken

    pub stepped : {nodes' keys' work' : List ℕ} {r : Step} → Performs tokens nodes keys work nodes' keys' work' (counts left (s.work - 1) s.nodes s.keys) asked r → Steps segwit script tokens nodes keys work nodes' keys' work' s r
    unfolding step_by
    stepped {nodes'} {keys'} {work'} {r} p =
        record {
          answers = p.answers script ∙ ap (λ (r : Reading). performed (room_of nodes keys work) r (work_of work (s.work - 1)) (newest (node_at nodes) s.nodes) (take s.keys keys)) read_at;
          kept = same_kept nodes nodes' keys keys' s left (s.work - 1) r p.kept;
        }

  pub row_refused : (e : Refused) {stop : Stop} → reading (refused e.number) (lexemes_left script tokens e.left) ≡ reading_asked segwit (row_of segwit (entry_of entry) (lexemes_left script tokens s.left))
      → stop ≡ stop_of_row e → Steps segwit script tokens nodes keys work nodes keys work s (Err stop)
  row_refused e reads is =
      stepped (refused e.number) e.left reads (refused_performs tokens nodes keys work (counts e.left (s.work - 1) s.nodes s.keys) (inside_after e.left) e.number (ap Err is))
