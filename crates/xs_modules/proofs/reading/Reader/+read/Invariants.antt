use Rattle.std.proofs.Common.{◌≡◌, ◌+◌, ◌-◌, ◌*◌, ◌≤◌, map, take}
use Rattle.xs_modules.specs.Reading.{most_modules}
use Rattle.xs_modules.specs.steps.Reader.{HasNodes, SoFar, mention_in, number_of}
use Rattle.xs_modules.specs.steps.Views.{imports_data}
use Rattle.xs_modules.proofs.reading.Reader.+read.Given as goal

-- each module that is read is one more of at most 256
abbrev pub decreases-read_mention : goal.decreases-read_mention
decreases-read_mention g l = 2 * (most_modules - number_of l.self.now)

abbrev pub decreases-read_elements : goal.decreases-read_elements
decreases-read_elements g l = 2 * (most_modules - number_of l.self.now) + 1

abbrev pub invariant-read_elements-loop-element : goal.invariant-read_elements-loop-element
invariant-read_elements-loop-element g l = record {
  so_far : SoFar (g.L.Library.files l.fn.library) l.fn.self l.self l.sheet (imports_data l.imports)
      (map (mention_in l.fn.self l.number) (take l.element-index l.elements)) (g.L.Library.asked l.fn.library) (g.L.Library.asked l.library)
      (g.L.Library.failed l.fn.library) (g.L.Library.failed l.library);
  files : g.L.Library.files l.library ≡ g.L.Library.files l.fn.library;
  nodes : HasNodes l.self l.number l.elements;
  grows : number_of l.fn.self ≤ number_of l.self;
  few : number_of l.self ≤ most_modules;
}
