-- What the tests of an insert are lent, by its lengths. Definitions only.
use Rattle.std.specs.Prelude.{length}
use Rattle.builder.specs.declared.Lengths.{Lengths}
use Rattle.insert_answers.specs.declared.Lent.{Lent}

abbrev pub lengths_of : Lent → Lengths
lengths_of a =
    record { indices = a.indices; coefficients = a.coefficients; node_floats = a.floats; node_words = length a.words.now; step_words = a.steps }
