-- Tests on bases and inputs, in which the rules of 01 and the rows of BIP 379 are both written.
use Rattle.std.specs.Prelude.{Bool, true, false}
use Rattle.base_input.specs.declared.Base.{Base}
use Rattle.base_input.specs.declared.Base.TheVariants.{B, K, «V», W}
use Rattle.base_input.specs.declared.Input.{Input}
use Rattle.base_input.specs.declared.Input.TheVariants.{Zero, One, Any, OneNonZero, AnyNonZero}

abbrev pub is_b : Base → Bool
is_b B = true
is_b K = false
is_b «V» = false
is_b W = false

abbrev pub is_k : Base → Bool
is_k B = false
is_k K = true
is_k «V» = false
is_k W = false

abbrev pub is_v : Base → Bool
is_v B = false
is_v K = false
is_v «V» = true
is_v W = false

abbrev pub is_w : Base → Bool
is_w B = false
is_w K = false
is_w «V» = false
is_w W = true

-- 01's "two equal of B, K, V", BIP 379's "both B, both K or both V"
abbrev pub equal_bkv : Base → Base → Bool
equal_bkv B b = is_b b
equal_bkv K b = is_k b
equal_bkv «V» b = is_v b
equal_bkv W b = false

-- BIP 379's z
abbrev pub is_zero : Input → Bool
is_zero Zero = true
is_zero One = false
is_zero Any = false
is_zero OneNonZero = false
is_zero AnyNonZero = false

-- One or OneNonZero: BIP 379's o
abbrev pub takes_one : Input → Bool
takes_one Zero = false
takes_one One = true
takes_one Any = false
takes_one OneNonZero = true
takes_one AnyNonZero = false

-- OneNonZero or AnyNonZero: BIP 379's n
abbrev pub top_non_zero : Input → Bool
top_non_zero Zero = false
top_non_zero One = false
top_non_zero Any = false
top_non_zero OneNonZero = true
top_non_zero AnyNonZero = true
