-- For the proof: the header of what the reader answers as the program holds it, in numbers of 32 bits. The listing is the same (NarrowLaws).
use Rattle.std.specs.Prelude.{◌%◌}
use Rattle.listing.specs.declared.Header.{Header}
use Rattle.decode.specs.declared.Answer.{Answer}

abbrev pub narrowed : Answer → Header
narrowed a =
    record {
      number = a.number;
      reason = a.reason;
      place = a.place % 4294967296;
      tokens = a.tokens % 4294967296;
      steps = a.steps % 4294967296;
      nodes = a.nodes % 4294967296;
      keys = a.keys % 4294967296;
    }
