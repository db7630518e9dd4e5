mod FileBeginning
mod FilesInOrder
mod CommandLine
mod CommandLineExamples
mod ClapWalk
mod ClapMatches
mod WordKinds
mod ProgramEnds
