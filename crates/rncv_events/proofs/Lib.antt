mod CalledEvents
mod ToldDocuments
mod SettledCalls
