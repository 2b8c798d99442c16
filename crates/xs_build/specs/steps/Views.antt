-- What declarations that were read represent.
use Rattle.std.specs.Prelude.{List, map, Vec}
use Rattle.std.specs.declared.alloc.Global.{Global}
use Rattle.xs_build.specs.declared.scope.Declared.{Declared}
use Rattle.xs_build.specs.Namespaces.{Binding}

-- a declaration as a binding
abbrev pub binding : Declared → Binding
binding d = (d.prefix, d.uri)

abbrev pub bindings_of : Vec Declared Global → List Binding
bindings_of declared = map binding declared.items
