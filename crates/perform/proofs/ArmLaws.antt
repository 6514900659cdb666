-- The arms of `perform`: what the row is, told of what it asks for. Assumes nothing.
use mathlib.Core.Path.{◌≡◌, refl}
use mathlib.Core.Bool.{Bool, true, false}
use mathlib.Core.List.{List, [], ◌∷◌}
use Prim.Native.Nat.{ℕ}
use Rattle.standard.specs.Table.{Node}
use Rattle.standard.specs.Rows as rows
use Rattle.standard.specs.Rows.{under_verify}
use Rattle.row.specs.declared.NonTerm.{NonTerm}
use Rattle.row.specs.declared.NonTerm.TheVariants as non-term
use Rattle.row.specs.declared.Row.{Row}
use Rattle.row.specs.declared.Row.TheVariants as row
use Rattle.row.specs.Request.{entry_of, request_of, offsets_from}
use Rattle.row.specs.Request as request
use Rattle.judge.specs.Nodes.{new_leaf}
use Rattle.judge.specs.NodeTable.{Finished}
use Rattle.work_list.specs.Work.{packed, Small}
use Rattle.work_list.proofs.WorkLaws.{entered}
use Rattle.node_store.proofs.KeyLaws.{offsets_length}
use Rattle.lists.specs.Small.{SmallEntry, SmallEntries}
use Rattle.lists.specs.Ready.{most_counted, Ready}
use Rattle.writes.specs.declared.State.{State}
use Rattle.writes.specs.Written.{Step, Enters, Leaves, Keyed}
use Rattle.perform.specs.View.{Inside, Performs}
use Rattle.perform.proofs.PerformLaws.{enters_performs, leaf_performs, verified_performs, keyed_performs}

-- What the rows' entries are as numbers

small : (e : NonTerm) → SmallEntry most_counted (entry_of e) → Small e
small non-term.Expression h = tt
small non-term.WExpression h = tt
small non-term.Swap h = tt
small non-term.MaybeAndV h = tt
small non-term.Alt h = tt
small non-term.Check h = tt
small non-term.DupIf h = tt
small non-term.Verify h = tt
small non-term.NonZero h = tt
small non-term.ZeroNotEqual h = tt
small non-term.AndV h = tt
small non-term.AndB h = tt
small non-term.Tern h = tt
small non-term.OrB h = tt
small non-term.OrD h = tt
small non-term.OrC h = tt
small (non-term.ThreshW k n) h = h
small (non-term.ThreshE k n) h = h
small non-term.EndIf h = tt
small non-term.EndIfNotIf h = tt
small non-term.EndIfElse h = tt

module _ (tokens nodes : List ℕ) (m : ℕ) (asked : Row) (ready : Ready m nodes (request_of tokens asked)) where
  pub small_one : (a : NonTerm) → asked ≡ row.Enter1 a → Small a
  small_one a e = let h : SmallEntries most_counted (entry_of a ∷ []) = rw e at ready in small a h.0

  pub small_two : (a b : NonTerm) → asked ≡ row.Enter2 a b → Small a × Small b
  small_two a b e = let h : SmallEntries most_counted (entry_of b ∷ entry_of a ∷ []) = rw e at ready in (small a h.1.0, small b h.0)

  pub small_three : (a b c : NonTerm) → asked ≡ row.Enter3 a b c → Small a × (Small b × Small c)
  small_three a b c e =
      let h : SmallEntries most_counted (entry_of c ∷ entry_of b ∷ entry_of a ∷ []) = rw e at ready in
      (small a h.1.1.0, (small b h.1.0, small c h.0))

-- an arm of the match
pub told : {tokens nodes keys work nodes' keys' work' : List ℕ} {s : State} {r : Step} (asked is : Row) → asked ≡ is
    → Performs tokens nodes keys work nodes' keys' work' s (request_of tokens is) r → Performs tokens nodes keys work nodes' keys' work' s (request_of tokens asked) r
told asked is e h = rw e h

-- a leaf without keys
pub leaf_arm : (tokens nodes keys work : List ℕ) (s : State) → Inside nodes keys work s → (x : Node) (kind number place : ℕ) (verify : Bool) (nodes' work' : List ℕ) (r : Step)
    → x ≡ new_leaf kind number 0 place → Leaves nodes nodes' work work' s x verify r → Performs tokens nodes keys work nodes' keys work' s (request.leaf_node kind number place (under_verify verify)) r
leaf_arm tokens nodes keys work s i x kind number place true nodes' work' r e h =
    verified_performs tokens nodes keys work s i x (packed non-term.Verify ∷ []) rows.Verify refl (λ g. entered work s.work (non-term.Verify ∷ []) g (tt, tt)) kind number place e h
leaf_arm tokens nodes keys work s i x kind number place false nodes' work' r e h = rw h.1 (leaf_performs tokens nodes keys work s i kind number place x e h.0)

module _ (tokens nodes keys work : List ℕ) (s : State) (inside : Inside nodes keys work s) (asked : Row) where
  pub leaf_told : {kind number place : ℕ} {verify : Bool} → asked ≡ row.Leaf kind number place verify → (x : Node) (nodes' work' : List ℕ) (r : Step)
      → x ≡ new_leaf kind number 0 place → Leaves nodes nodes' work work' s x verify r → Performs tokens nodes keys work nodes' keys work' s (request_of tokens asked) r
  leaf_told {kind} {number} {place} {verify} e x nodes' work' r n h = rw e (leaf_arm tokens nodes keys work s inside x kind number place verify nodes' work' r n h)

  pub keys_told : {kind k n first stride : ℕ} → asked ≡ row.Keys kind k n first stride → {x : Node} {nodes' keys' : List ℕ} {r : Step}
      → x ≡ new_leaf kind k n s.keys → Keyed nodes nodes' keys keys' s x (offsets_from tokens n first stride) r → Performs tokens nodes keys work nodes' keys' work s (request_of tokens asked) r
  keys_told {kind} {k} {n} {first} {stride} e {x} l h =
      rw e (keyed_performs tokens nodes keys work s inside x (offsets_from tokens n first stride) kind k n (offsets_length tokens n first stride) l h)

  module _ (ready : Ready s.nodes nodes (request_of tokens asked)) where
    pub one_told : {a : NonTerm} → asked ≡ row.Enter1 a → {work' : List ℕ} {r : Step} → Enters work work' s (packed a ∷ []) r → Performs tokens nodes keys work nodes keys work' s (request_of tokens asked) r
    one_told {a} e h =
        let small : Small a = small_one tokens nodes s.nodes asked ready a e in
        rw e (enters_performs tokens nodes keys work s inside (entry_of a ∷ []) h refl (λ g. entered work s.work (a ∷ []) g (small, tt)))

    pub two_told : {a b : NonTerm} → asked ≡ row.Enter2 a b → {work' : List ℕ} {r : Step} → Enters work work' s (packed a ∷ packed b ∷ []) r → Performs tokens nodes keys work nodes keys work' s (request_of tokens asked) r
    two_told {a} {b} e h =
        let small = small_two tokens nodes s.nodes asked ready a b e in
        rw e (enters_performs tokens nodes keys work s inside (entry_of b ∷ entry_of a ∷ []) h refl (λ g. entered work s.work (a ∷ b ∷ []) g (small.0, (small.1, tt))))

    pub three_told : {a b c : NonTerm} → asked ≡ row.Enter3 a b c → {work' : List ℕ} {r : Step} → Enters work work' s (packed a ∷ packed b ∷ packed c ∷ []) r → Performs tokens nodes keys work nodes keys work' s (request_of tokens asked) r
    three_told {a} {b} {c} e h =
        let small = small_three tokens nodes s.nodes asked ready a b c e in
        rw e (enters_performs tokens nodes keys work s inside (entry_of c ∷ entry_of b ∷ entry_of a ∷ []) h refl (λ g. entered work s.work (a ∷ b ∷ c ∷ []) g (small.0, (small.1.0, (small.1.1, tt)))))
