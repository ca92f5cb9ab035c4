-- The fixed limits (01, "The image"). Assumes nothing.
use Rattle.model.specs.declared.Bounds.{Bounds}

abbrev pub limits : Bounds
limits =
    record {
      types_least = 2;
      types = 16;
      values_least = 1;
      values = 4096;
      variables_least = 0;
      variables = 64;
      states_least = 1;
      states = 64;
      gates_least = 1;
      gates = 64;
      rows_least = 2;
      rows = 2048;
      length_least = 38;
      length = 16816;
      vector = 8;
      branches = 64;
      label = 10;
      budget = 1000000;
    }
