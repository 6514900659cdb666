-- The form of the trees that the rows build: "and_v chains nested to the left and floated out of first children". A row reads one expression, and MaybeAndV after it joins what stands before; so an and_v ends up around every node that is written with nothing before its first child.
use Rattle.std.specs.Prelude.{Bool, true, false, ◌&&◌, not}
use Rattle.standard.specs.Tree.{Wrapper, alt, swap, check, dupIf, verify, nonZero, zeroNotEqual, Combination, and_v, and_b, or_b, or_d, or_c, or_i, Tree, Trees, leaf, wrap, join, and_or, thresh, nil, ◌⊳◌, is_and_v_tree, left_nested}

-- c:, v: and n: are written with nothing before their child: its and_v's float out
abbrev pub floats : Wrapper → Bool
floats alt = false
floats swap = false
floats check = true
floats dupIf = false
floats verify = true
floats nonZero = false
floats zeroNotEqual = true

-- so do those of the first child of every combination but or_i, which has IF before it. An and_v in front of an and_v is nested to the left as it stands
abbrev pub first_floats : Combination → Bool
first_floats and_v = false
first_floats and_b = true
first_floats or_b = true
first_floats or_d = true
first_floats or_c = true
first_floats or_i = false

-- no and_v stands where it would float out: under c:, v: or n:, or as the first child of such a combination, of an and_or or of a thresh
abbrev mutual
  pub floated_out : Tree → Bool
  floated_out (leaf l) = true
  floated_out (wrap w x) = not (floats w && is_and_v_tree x) && floated_out x
  floated_out (join c x y) = not (first_floats c && is_and_v_tree x) && (floated_out x && floated_out y)
  floated_out (and_or x y z) = not (is_and_v_tree x) && (floated_out x && (floated_out y && floated_out z))
  floated_out (thresh k x xs) = not (is_and_v_tree x) && (floated_out x && all_floated_out xs)

  pub all_floated_out : Trees → Bool
  all_floated_out nil = true
  all_floated_out (t ⊳ ts) = floated_out t && all_floated_out ts

-- the form that the rows build
abbrev pub row_form : Tree → Bool
row_form t = left_nested t && floated_out t
